use Rattle.std.proofs.Common.{◌≡◌, ℕ, ◌+◌, ◌*◌, ◌<◌, ◌≤◌, length, slice_index}
use Rattle.block_batch.specs.declared.head.TheConstants.{TEXT}
use Rattle.block_batch.proofs.head.head_of.Given as goal

abbrev pub invariant-loop-i : goal.invariant-loop-i
invariant-loop-i l = record {
  size : length l.words ≡ 512;
  text : slice_index l.words 0 ≡ TEXT;
  number : slice_index l.words 1 ≡ l.number;
  count : slice_index l.words 2 ≡ length l.places;
  places : (k : ℕ) → k < l.i → slice_index l.words (3 + 2 * k) ≡ slice_index l.places k;
  digests : (k : ℕ) → k < l.i → slice_index l.words (4 + 2 * k) ≡ slice_index l.digests k;
  rest : (k : ℕ) → 3 + 2 * l.i ≤ k → slice_index l.words k ≡ 0;
}
