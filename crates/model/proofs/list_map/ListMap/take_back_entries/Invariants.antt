use Rattle.std.proofs.Common.{◌≡◌}
use Rattle.std.specs.FinMap as map
use Rattle.model.specs.Given.{all_entries_reverted}
use Rattle.model.proofs.MapLaws.{each_entries_reverted}
use Rattle.model.proofs.list_map.ListMap.take_back_entries.Given as goal

abbrev pub invariant-loop-changes : goal.invariant-loop-changes
invariant-loop-changes g l = each_entries_reverted l.indexed l.left l.changes-iterator ≡ all_entries_reverted l.indexed l.fn.entries (map.entries l.self)
