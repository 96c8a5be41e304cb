use Rattle.std.proofs.Common.{length, ◌-◌, ◌^◌}
use Rattle.btree_node.specs.Runs.{IsRunAbove}
use Rattle.nsf_core.specs.Value.{value_of}
use Rattle.core_scan.specs.Visible.{left_of, visible}
use Rattle.core_scan.proofs.Counted.{AreCounted}
use Rattle.core_scan.proofs.reading.counted.Given as goal

abbrev pub invariant-loop-entry : goal.invariant-loop-entry
invariant-loop-entry g l = record {
  counted : AreCounted (visible (value_of l.core).index.entries l.range) (left_of (value_of l.core).index.entries l.range l.last) l.count (2 ^ 64 - 1);
  run : IsRunAbove (value_of l.core).index.entries l.last l.run;
}

abbrev pub decreases-loop-entry : goal.decreases-loop-entry
decreases-loop-entry g l = length (left_of (value_of l.core).index.entries l.range l.last)
