use Rattle.std.proofs.Common.{◌≡◌, ◌+◌, ◌*◌, ◌%◌, ◌<◌, ℕ, length, slice_index}
use Rattle.block_device.proofs.crash.junk.Given as goal

abbrev pub invariant-loop-i : goal.invariant-loop-i
invariant-loop-i l = record { size : length l.bytes ≡ 4096; each : (k : ℕ) → k < l.i → slice_index l.bytes k ≡ (7 * k + 13) % 256 }
