use Rattle.std.proofs.Common.{◌≡◌}
use Rattle.model.specs.Given.{entries_reverted}
use Rattle.model.proofs.entry_map.EntryMap.revert.Given as goal

abbrev pub invariant-loop-change : goal.invariant-loop-change
invariant-loop-change g l = entries_reverted l.indexed l.self l.change-iterator.iter.rest.now ≡ entries_reverted l.indexed l.fn.self l.changes
