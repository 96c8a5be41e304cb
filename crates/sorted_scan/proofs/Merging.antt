-- The pairs in sorted runs.
use Rattle.std.proofs.Common.{◌≡◌, ◌≤◌, ◌+◌, zero, suc, Bool, false, Some, List, [], ◌∷◌, ◌++◌, get_or, length, refl, sym, ap, subst, ◌∙◌, arith}
use Rattle.std.specs.List.{All, AllByRecursion, Contains, count_by, sum_by}
use Rattle.std.specs.List.Sorted.{IsPermutation, IsSorted}
use Rattle.std.specs.Ordering.{is_lt}
use Rattle.std.specs.BinaryHeap.{IsUpperBound, KeepsHeap, PopsGreatest}
use Rattle.std.specs.Vec.Iter.{into_iter_items}
use Rattle.std.proofs.lemmas.List.Elements.{All-append, All-cons, All-head, All-tail, All-weaker, Contains-append_left, Contains-append_right}
use Rattle.std.proofs.lemmas.List.Sums.{sum_by-cons}
use Rattle.std.proofs.lemmas.List.Sorted.{sum_by-IsPermutation, sorted_far, ranks_by, All-permutation, length_permutation, Contains-permutation}
use Rattle.std.proofs.lemmas.List.Sorted.{IsPermutation-sym}
use Rattle.record_values.specs.Orders.{pair_cmp, pair_cmp_total}
use Rattle.record_values.specs.declared.pair.Pair.{Pair}
use Rattle.sorted_scan.specs.declared.merge.SortedRun.{SortedRun}
use Rattle.sorted_scan.specs.FullRuns.{full_run, runs_of}
use Rattle.sorted_scan.specs.Pairs.{AreSame, IsLow, least}
use Rattle.sorted_scan.specs.Merges.{run_cmp, run_pairs, pairs_in, AreSortedRuns}
use Rattle.sorted_scan.proofs.Counts.{count_append, same_refl, same_trans, same_append, from_permutation}
use Rattle.sorted_scan.proofs.Least.{least_is}
use Rattle.sorted_scan.proofs.Order.{not_below}

-- in a sorted list no pair is below the first
pub sorted_low : (p : Pair) (rest : List Pair) → IsSorted pair_cmp (p ∷ rest) → IsLow p (p ∷ rest)
sorted_low p rest up k d h = sorted_far (λ x y. is_lt (pair_cmp x y)) (ranks_by pair_cmp_total (λ x. x)) (p ∷ rest) up 0 k d (omega arith) h

pub sorted_rest : (p : Pair) (rest : List Pair) → IsSorted pair_cmp (p ∷ rest) → IsSorted pair_cmp rest
sorted_rest p rest up k d low h =
    let e : suc k + 1 ≡ suc (k + 1) = omega arith in
    subst (λ n. is_lt (pair_cmp (get_or (p ∷ rest) n d) (get_or rest k d)) ≡ false) e (up (suc k) d (omega arith) (omega arith))

module _ {Z : Type 0} where
  pairs_count : (test : Pair → Bool) (runs : List (SortedRun Z)) → count_by test (pairs_in runs) ≡ sum_by (λ run. count_by test (run_pairs run)) runs
  pairs_count test [] = refl
  pairs_count test (run ∷ runs) =
      count_append test (run_pairs run) (pairs_in runs)
      ∙ ap (λ n. count_by test (run_pairs run) + n) (pairs_count test runs)
      ∙ sym (sum_by-cons (λ r. count_by test (run_pairs r)) run runs)

  -- runs in another order have the same pairs
  pub pairs_moved : (runs others : List (SortedRun Z)) → IsPermutation runs others → AreSame (pairs_in runs) (pairs_in others)
  pairs_moved runs others moved test =
      pairs_count test runs
      ∙ sym (sum_by-IsPermutation (λ run. count_by test (run_pairs run)) runs others moved)
      ∙ sym (pairs_count test others)

  first_in : (runs : List (SortedRun Z)) (run : SortedRun Z) → Contains runs run → Contains (pairs_in runs) run.first
  first_in [] run (k, within, is) = absurd (omega arith)
  first_in (r ∷ runs) run (zero, within, is) = Contains-append_left (run_pairs r) (pairs_in runs) run.first (
    0,
    omega arith,
    ap (λ (x : SortedRun Z). x.first) is,
  )
  first_in (r ∷ runs) run (suc k, within, is) = Contains-append_right (run_pairs r) (pairs_in runs) run.first (first_in runs run (k, omega arith, is))

  low_in : (p : Pair) (runs : List (SortedRun Z)) → AllByRecursion (λ (y : SortedRun Z). is_lt (pair_cmp y.first p) ≡ false) runs
      → All (λ (run : SortedRun Z). IsSorted pair_cmp (run_pairs run)) runs → IsLow p (pairs_in runs)
  low_in p [] above sorted = λ k d h. absurd (omega arith)
  low_in p (r ∷ runs) above sorted =
      All-append (λ q. is_lt (pair_cmp q p) ≡ false) (run_pairs r) (pairs_in runs)
      (All-weaker (λ q. is_lt (pair_cmp q r.first) ≡ false) (λ q. is_lt (pair_cmp q p) ≡ false) (λ q h. not_below p r.first q above.0 h) (run_pairs r)
      (sorted_low r.first (into_iter_items r.rest) (All-head (λ (run : SortedRun Z). IsSorted pair_cmp (run_pairs run)) r runs sorted)))
      (low_in p runs above.1 (All-tail (λ (run : SortedRun Z). IsSorted pair_cmp (run_pairs run)) r runs sorted))

  -- the first pair of the greatest run is the least of all
  pub top_least : (runs : List (SortedRun Z)) (run : SortedRun Z) → Contains runs run → IsUpperBound run_cmp run runs
      → All (λ (r : SortedRun Z). IsSorted pair_cmp (run_pairs r)) runs → least (pairs_in runs) ≡ Some run.first
  top_least runs run has top sorted = least_is (pairs_in runs) run.first (first_in runs run has) (low_in run.first runs top sorted)

  -- one more run in the heap
  pub added_run : (pairs : List Pair) (run : SortedRun Z) (runs runs' : List (SortedRun Z)) → IsPermutation pairs (run_pairs run)
      → IsPermutation (run ∷ runs) runs' → AreSame (pairs ++ pairs_in runs) (pairs_in runs')
  added_run pairs run runs runs' sorted moved =
      same_trans (pairs ++ pairs_in runs) (run_pairs run ++ pairs_in runs) (pairs_in runs')
      (same_append pairs (run_pairs run) (pairs_in runs) (pairs_in runs) (from_permutation pairs (run_pairs run) sorted) (same_refl (pairs_in runs)))
      (pairs_moved (run ∷ runs) runs' moved)

  pub sound_run : (run : SortedRun Z) (runs runs' : List (SortedRun Z)) → AreSortedRuns runs → IsSorted pair_cmp (run_pairs run)
      → length (run_pairs run) ≤ full_run → KeepsHeap run_cmp runs runs' → IsPermutation (run ∷ runs) runs' → AreSortedRuns runs'
  sound_run run runs runs' sound sorted short keeps moved = record {
    heap = keeps sound.heap;
    sorted = All-permutation (λ (r : SortedRun Z). IsSorted pair_cmp (run_pairs r)) (run ∷ runs) runs' moved
        (All-cons (λ (r : SortedRun Z). IsSorted pair_cmp (run_pairs r)) run runs sorted sound.sorted);
    short = All-permutation (λ (r : SortedRun Z). length (run_pairs r) ≤ full_run) (run ∷ runs) runs' moved
        (All-cons (λ (r : SortedRun Z). length (run_pairs r) ≤ full_run) run runs short sound.short);
  }

  -- a run whose first pair was taken goes back
  pub left_run : (run rest : SortedRun Z) (runs runs' : List (SortedRun Z)) → run_pairs run ≡ run.first ∷ run_pairs rest → IsPermutation (rest ∷ runs) runs'
      → AreSame (run_pairs run ++ pairs_in runs) (run.first ∷ pairs_in runs')
  left_run run rest runs runs' e moved =
      subst (λ ps. AreSame (ps ++ pairs_in runs) (run.first ∷ pairs_in runs')) (sym e)
      (same_append (run.first ∷ []) (run.first ∷ []) (run_pairs rest ++ pairs_in runs) (pairs_in runs') (same_refl (run.first ∷ []))
      (pairs_moved (rest ∷ runs) runs' moved))

  pub sorted_left : (run rest : SortedRun Z) → run_pairs run ≡ run.first ∷ run_pairs rest → IsSorted pair_cmp (run_pairs run)
      → IsSorted pair_cmp (run_pairs rest)
  sorted_left run rest e up = sorted_rest run.first (run_pairs rest) (subst (IsSorted pair_cmp) e up)

  pub short_left : (run rest : SortedRun Z) → run_pairs run ≡ run.first ∷ run_pairs rest → length (run_pairs run) ≤ full_run
      → length (run_pairs rest) ≤ full_run
  short_left run rest e short = let f = ap length e in omega arith

  -- a run is of as many pairs as it was made of
  pub short_made : (pairs : List Pair) (run : SortedRun Z) → IsPermutation pairs (run_pairs run) → length pairs ≤ full_run → length (run_pairs run) ≤ full_run
  short_made pairs run moved short = let e = length_permutation pairs (run_pairs run) moved in omega arith

  pub one_made : (pairs : List Pair) (run : SortedRun Z) → IsPermutation pairs (run_pairs run) → runs_of pairs ≡ 1
  one_made pairs run moved = let e = length_permutation pairs (run_pairs run) moved in omega arith

  module _ (runs : List (SortedRun Z)) (sound : AreSortedRuns runs) (run : SortedRun Z) (rest : List (SortedRun Z)) (moved : IsPermutation runs (run ∷ rest))
      (pops : PopsGreatest run_cmp runs run rest) where
    popped_all : All (λ (r : SortedRun Z). IsSorted pair_cmp (run_pairs r)) (run ∷ rest)
    popped_all = All-permutation (λ (r : SortedRun Z). IsSorted pair_cmp (run_pairs r)) runs (run ∷ rest) moved sound.sorted

    all_short : All (λ (r : SortedRun Z). length (run_pairs r) ≤ full_run) (run ∷ rest)
    all_short = All-permutation (λ (r : SortedRun Z). length (run_pairs r) ≤ full_run) runs (run ∷ rest) moved sound.short

    pub popped_sound : AreSortedRuns rest
    popped_sound = record {
      heap = (pops sound.heap).0;
      sorted = All-tail (λ (r : SortedRun Z). IsSorted pair_cmp (run_pairs r)) run rest popped_all;
      short = All-tail (λ (r : SortedRun Z). length (run_pairs r) ≤ full_run) run rest all_short;
    }

    pub popped_short : length (run_pairs run) ≤ full_run
    popped_short = All-head (λ (r : SortedRun Z). length (run_pairs r) ≤ full_run) run rest all_short

    pub popped_sorted : IsSorted pair_cmp (run_pairs run)
    popped_sorted = All-head (λ (r : SortedRun Z). IsSorted pair_cmp (run_pairs r)) run rest popped_all

    pub popped_least : least (pairs_in runs) ≡ Some run.first
    popped_least = top_least runs run (Contains-permutation (run ∷ rest) runs run (IsPermutation-sym runs (run ∷ rest) moved) (0, omega arith, refl))
        (pops sound.heap).1 sound.sorted

    pub popped_left : (others : List Pair) → AreSame (run_pairs run ++ pairs_in rest) others → AreSame (pairs_in runs) others
    popped_left others left = same_trans (pairs_in runs) (run_pairs run ++ pairs_in rest) others (pairs_moved runs (run ∷ rest) moved) left
