use Rattle.std.proofs.Common.{length}
use Rattle.btree_node.specs.Runs.{IsRunAbove}
use Rattle.std.specs.Option.{option_copied}
use Rattle.nsf_core.specs.Value.{value_of}
use Rattle.core_scan.specs.Visible.{left_of}
use Rattle.core_committed.specs.Committed.{committed_index}
use Rattle.core_scan.proofs.Paged.{IsPart}
use Rattle.core_committed.proofs.reading.page_of.Given as goal

abbrev pub invariant-loop-entry : goal.invariant-loop-entry
invariant-loop-entry g l = record {
  part : IsPart (committed_index (value_of l.core)) l.range (option_copied l.fn.after) l.last l.next l.limit l.pairs.items;
  run : IsRunAbove (value_of l.core).index.entries l.last l.run;
}

abbrev pub decreases-loop-entry : goal.decreases-loop-entry
decreases-loop-entry g l = length (left_of (committed_index (value_of l.core)) l.range l.last)
