use Rattle.std.proofs.Common.{length, ◌-◌, ◌^◌}
use Rattle.btree_node.specs.Runs.{IsRunAbove}
use Rattle.entry_scan.specs.Visible.{left_of, visible}
use Rattle.entry_scan.proofs.Counted.{AreCounted}
use Rattle.entry_scan.proofs.reading.count.Given as goal

abbrev pub invariant-loop-entry : goal.invariant-loop-entry
invariant-loop-entry g l = record {
  counted : AreCounted (visible (g.E.OrderedEntries.entries l.index) l.range) (left_of (g.E.OrderedEntries.entries l.index) l.range l.last)
      l.count (2 ^ 64 - 1);
  run : IsRunAbove (g.E.OrderedEntries.entries l.index) l.last l.run;
}

abbrev pub decreases-loop-entry : goal.decreases-loop-entry
decreases-loop-entry g l = length (left_of (g.E.OrderedEntries.entries l.index) l.range l.last)
