use Rattle.std.proofs.Common.{length}
use Rattle.std.specs.Option.{option_copied}
use Rattle.entry_scan.specs.Backward.{left_before}
use Rattle.entry_scan.proofs.PagedBack.{IsPartBack}
use Rattle.entry_scan.proofs.backward.page_back_of.Given as goal

abbrev pub invariant-loop-entry : goal.invariant-loop-entry
invariant-loop-entry g l =
    IsPartBack (g.E.OrderedEntries.entries l.index) l.range (option_copied l.fn.before) l.last l.next l.limit l.pairs.items

abbrev pub decreases-loop-entry : goal.decreases-loop-entry
decreases-loop-entry g l = length (left_before (g.E.OrderedEntries.entries l.index) l.range l.last)
