use Rattle.std.proofs.Common.{length, ◌≡◌}
use Rattle.std.specs.FinMap.{entries}
use Rattle.btree_node.specs.Runs.{IsRunAbove}
use Rattle.entry_scan.specs.Visible.{left_of}
use Rattle.entry_scan.proofs.Stepped.{past}
use Rattle.entry_scan.proofs.walk.next_visible.Given as goal

abbrev pub invariant-loop-entry : goal.invariant-loop-entry
invariant-loop-entry g l = record {
  left : left_of (g.E.OrderedEntries.entries l.index) l.range l.fn.after ≡ left_of (g.E.OrderedEntries.entries l.index) l.range l.last;
  run : IsRunAbove (g.E.OrderedEntries.entries l.index) l.last l.unseen;
}

abbrev pub decreases-loop-entry : goal.decreases-loop-entry
decreases-loop-entry g l = length (past l.last (entries (g.E.OrderedEntries.entries l.index)))
