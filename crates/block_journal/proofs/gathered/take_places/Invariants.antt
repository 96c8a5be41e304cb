use Rattle.std.proofs.Common.{◌≡◌, ℕ, ◌<◌, length, slice_index}
use Rattle.block_batch.specs.Head.{place_of}
use Rattle.block_journal.proofs.gathered.take_places.Given as goal

abbrev pub invariant-loop-i : goal.invariant-loop-i
invariant-loop-i l = record {
  size : length l.places ≡ 254;
  places : (k : ℕ) → k < l.i → slice_index l.places k ≡ place_of l.head k;
}
