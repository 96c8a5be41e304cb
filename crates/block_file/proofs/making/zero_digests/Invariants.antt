use Rattle.std.proofs.Common.{◌≡◌, ℕ, ◌+◌, ◌*◌, ◌<◌, length, slice_index}
use Rattle.block_device.specs.Blocks.{zero_block}
use Rattle.block_batch.specs.Batch.{block_digest}
use Rattle.block_file.proofs.making.zero_digests.Given as goal

abbrev pub invariant-loop-i : goal.invariant-loop-i
invariant-loop-i l = record {
  size : length l.words ≡ 512;
  each : (j : ℕ) → j < l.i → slice_index l.words j ≡ block_digest (l.table + (512 * l.k + j)) zero_block;
}
