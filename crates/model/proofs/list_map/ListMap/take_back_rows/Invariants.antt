use Rattle.std.proofs.Common.{◌≡◌}
use Rattle.std.specs.FinMap as map
use Rattle.model.specs.Recovery.{all_reverted}
use Rattle.model.proofs.MapLaws.{each_reverted}
use Rattle.model.proofs.list_map.ListMap.take_back_rows.Given as goal

abbrev pub invariant-loop-changes : goal.invariant-loop-changes
invariant-loop-changes g l = each_reverted l.left l.changes-iterator ≡ all_reverted l.fn.rows (map.entries l.self)
