use Rattle.std.proofs.Common.{length, ◌≡◌}
use Rattle.std.specs.FinMap.{entries}
use Rattle.nsf_core.specs.Value.{value_of}
use Rattle.core_scan.specs.Backward.{left_before}
use Rattle.core_scan.proofs.SteppedBack.{ahead}
use Rattle.core_scan.proofs.backward.visible_before.Given as goal

abbrev pub invariant-loop-entry : goal.invariant-loop-entry
invariant-loop-entry g l = left_before (value_of l.core).index.entries l.range l.fn.before ≡ left_before (value_of l.core).index.entries l.range l.last

abbrev pub decreases-loop-entry : goal.decreases-loop-entry
decreases-loop-entry g l = length (ahead l.last (entries (value_of l.core).index.entries))
