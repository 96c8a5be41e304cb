use Rattle.std.proofs.Common.{length, ◌≡◌}
use Rattle.std.specs.FinMap.{entries}
use Rattle.btree_node.specs.Runs.{IsRunAbove}
use Rattle.nsf_core.specs.Value.{value_of}
use Rattle.core_scan.specs.Visible.{left_of}
use Rattle.core_scan.proofs.Stepped.{past}
use Rattle.core_committed.specs.Committed.{committed_index}
use Rattle.core_committed.proofs.walk.next_committed.Given as goal

abbrev pub invariant-loop-entry : goal.invariant-loop-entry
invariant-loop-entry g l = record {
  left : left_of (committed_index (value_of l.core)) l.range l.fn.after ≡ left_of (committed_index (value_of l.core)) l.range l.last;
  run : IsRunAbove (value_of l.core).index.entries l.last l.unseen;
}

abbrev pub decreases-loop-entry : goal.decreases-loop-entry
decreases-loop-entry g l = length (past l.last (entries (value_of l.core).index.entries))
