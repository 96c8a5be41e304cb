use Rattle.std.proofs.Common.{length}
use Rattle.std.specs.Option.{option_copied}
use Rattle.nsf_core.specs.Value.{value_of}
use Rattle.core_scan.specs.Backward.{left_before}
use Rattle.core_scan.proofs.PagedBack.{IsPartBack}
use Rattle.core_scan.proofs.backward.page_back_of.Given as goal

abbrev pub invariant-loop-entry : goal.invariant-loop-entry
invariant-loop-entry g l =
    IsPartBack (value_of l.core).index.entries l.range (option_copied l.fn.before) l.last l.next l.limit l.pairs.items

abbrev pub decreases-loop-entry : goal.decreases-loop-entry
decreases-loop-entry g l = length (left_before (value_of l.core).index.entries l.range l.last)
