use Rattle.std.proofs.Common.{◌≡◌, ℕ, ◌+◌, ◌-◌, ◌<◌, ◌≤◌, slice_index}
use Rattle.block_journal.proofs.writing.run_from.Given as goal

abbrev pub invariant-loop-k : goal.invariant-loop-k
invariant-loop-k g l = record {
  from : l.i ≤ l.k;
  low : l.k ≤ l.last.count;
  run : (j : ℕ) → j < l.k - l.i → slice_index l.last.places (l.i + j) ≡ slice_index l.last.places l.i + j;
  kept : l.i < l.k → slice_index l.last.places l.i + (l.k - l.i) ≤ l.shape.kept;
}
