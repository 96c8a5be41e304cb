use Rattle.std.proofs.Common.{length, ◌≡◌}
use Rattle.std.specs.FinMap.{entries}
use Rattle.entry_scan.specs.Backward.{left_before}
use Rattle.entry_scan.proofs.SteppedBack.{ahead}
use Rattle.entry_scan.proofs.backward.visible_before.Given as goal

abbrev pub invariant-loop-entry : goal.invariant-loop-entry
invariant-loop-entry g l =
    left_before (g.E.OrderedEntries.entries l.index) l.range l.fn.before ≡ left_before (g.E.OrderedEntries.entries l.index) l.range l.last

abbrev pub decreases-loop-entry : goal.decreases-loop-entry
decreases-loop-entry g l = length (ahead l.last (entries (g.E.OrderedEntries.entries l.index)))
