-- Runs that are cut off what was gathered.
use Rattle.std.proofs.Common.{◌≡◌, ◌<◌, ◌≤◌, ◌+◌, ◌⊎◌, List, ◌++◌, length, arith, length-append}
use Rattle.std.proofs.Common.{Result, Ok, Err, OnOk}
use Rattle.record_values.specs.declared.pair.Pair.{Pair}
use Rattle.sorted_scan.specs.FullRuns.{AreFull, AreFullButOne, MergeValue, full_run, runs_of}
use Rattle.sorted_scan.specs.Pairs.{AreSame}
use Rattle.sorted_scan.proofs.Counts.{count_append, same_length}

module _ (run others : List Pair) (old new : MergeValue) (full : AreFull old) (added : AreSame ((run ++ others) ++ old.pairs) new.pairs)
    (runs : new.runs ≡ runs_of run + (runs_of others + old.runs)) where
  longer : length new.pairs ≡ length run + length others + length old.pairs
  longer = let long = same_length ((run ++ others) ++ old.pairs) new.pairs added in
      omega (arith, long, length-append (run ++ others) old.pairs, length-append run others)

  -- a full run, and no other
  pub still_full : length run ≡ full_run → length others ≡ 0 → AreFull new
  still_full whole none = let long = longer in omega arith

  -- a run that may not be full, or a full one and another
  pub one_short : length run ≤ full_run → (length others ≡ 0) ⊎ (length run ≡ full_run) → length others < full_run → AreFullButOne new
  one_short short which few = let long = longer in omega arith

-- what follows from two facts of an answer
pub on_both : {A E : Type 0} (r : Result A E) (P Q S : Type 0) → (P → Q → S) → OnOk r P → OnOk r Q → OnOk r S
on_both (Ok a) P Q S f p q = f p q
on_both (Err e) P Q S f p q = tt

-- two runs go to the merge, the first of them in another order
pub two_added : (all run others old between new : List Pair) → AreSame all run → AreSame (run ++ old) between → AreSame (others ++ between) new
    → AreSame ((all ++ others) ++ old) new
two_added all run others old between new same first second test =
    omega (
      arith,
      same test,
      first test,
      second test,
      count_append test (all ++ others) old,
      count_append test all others,
      count_append test run old,
      count_append test others between,
    )
