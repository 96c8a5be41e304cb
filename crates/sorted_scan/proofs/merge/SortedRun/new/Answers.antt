use Rattle.std.proofs.Common.{sym, subst, ◌∙◌}
use Rattle.std.specs.List.Sorted.{IsSorted}
use Rattle.record_values.specs.Orders.{pair_cmp}
use Rattle.sorted_scan.proofs.merge.SortedRun.new.Goals as goal

pub returns-clause-sorted : goal.returns-clause-sorted
returns-clause-sorted g c = subst (IsSorted pair_cmp) (sym c.into_iter-rest.ensures.rest ∙ c.in_ok-first.ensures.cases.0) c.sort_unstable.ensures.sorted
