use Rattle.std.proofs.Common.{length}
use Rattle.btree_node.specs.Runs.{IsRunAbove}
use Rattle.std.specs.Option.{option_copied}
use Rattle.entry_scan.specs.Visible.{left_of}
use Rattle.entry_scan.proofs.Paged.{IsPart}
use Rattle.entry_scan.proofs.reading.page_of.Given as goal

abbrev pub invariant-loop-entry : goal.invariant-loop-entry
invariant-loop-entry g l = record {
  part : IsPart (g.E.OrderedEntries.entries l.index) l.range (option_copied l.fn.after) l.last l.next l.limit l.pairs.items;
  run : IsRunAbove (g.E.OrderedEntries.entries l.index) l.last l.run;
}

abbrev pub decreases-loop-entry : goal.decreases-loop-entry
decreases-loop-entry g l = length (left_of (g.E.OrderedEntries.entries l.index) l.range l.last)
