-- Sorted runs, and the pairs that lie in them.
use Rattle.std.specs.Prelude.{◌≤◌, List, [], ◌∷◌, ◌++◌, All, length}
use Rattle.std.specs.declared.cmp.Ordering.{Ordering}
use Rattle.std.specs.Cmp.{IsTotalOrder, on_total, back_total}
use Rattle.std.specs.List.Sorted.{IsSorted}
use Rattle.std.specs.BinaryHeap.{IsHeap}
use Rattle.std.specs.Vec.Iter.{into_iter_items}
use Rattle.record_values.specs.Orders.{pair_cmp, pair_cmp_total}
use Rattle.record_values.specs.declared.pair.Pair.{Pair}
use Rattle.sorted_scan.specs.declared.merge.SortedRun.{SortedRun}
use Rattle.sorted_scan.specs.FullRuns.{full_run}

module _ {Z : Type 0} where
  -- a run whose first pair is less is greater: the greatest run has the least pair
  abbrev pub run_cmp : SortedRun Z → SortedRun Z → Ordering
  run_cmp a b = pair_cmp b.first a.first

  pub run_cmp_total : IsTotalOrder run_cmp
  run_cmp_total = on_total (λ (r : SortedRun Z). r.first) (back_total pair_cmp_total)

  abbrev pub run_pairs : SortedRun Z → List Pair
  run_pairs run = run.first ∷ into_iter_items run.rest

  -- the pairs of the runs, one run after the other
  abbrev pub pairs_in : List (SortedRun Z) → List Pair
  pairs_in [] = []
  pairs_in (run ∷ runs) = run_pairs run ++ pairs_in runs

  -- a heap of runs, each in its order, and none longer than a full one
  pub record AreSortedRuns (runs : List (SortedRun Z)) : Type 0 where
    pub heap : IsHeap run_cmp runs
    pub sorted : All (λ run. IsSorted pair_cmp (run_pairs run)) runs
    pub short : All (λ run. length (run_pairs run) ≤ full_run) runs
