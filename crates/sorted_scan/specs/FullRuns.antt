-- How long the sorted runs are.
use Rattle.std.specs.Prelude.{◌≡◌, ℕ, ◌+◌, ◌*◌, ◌<◌, min, List, length}
use Rattle.record_values.specs.declared.pair.Pair.{Pair}

-- how many pairs a run has: the last one may have fewer
abbrev pub full_run : ℕ
full_run = 4096

-- what clauses see of a merge: its pairs, and in how many runs they lie, none of which is longer than a full one
pub record MergeValue : Type 0 where
  pub pairs : List Pair
  pub runs : ℕ

-- how many runs are made of these pairs: none of no pair
abbrev pub runs_of : List Pair → ℕ
runs_of pairs = min 1 (length pairs)

-- each run is full
abbrev pub AreFull : MergeValue → Type 0
AreFull m = length m.pairs ≡ full_run * m.runs

-- in fewer runs the pairs could not lie: each is full but what the last one lacks
abbrev pub AreFullButOne : MergeValue → Type 0
AreFullButOne m = full_run * m.runs < length m.pairs + full_run
