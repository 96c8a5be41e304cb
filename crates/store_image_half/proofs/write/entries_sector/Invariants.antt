use Rattle.std.proofs.Common.{ℕ, ◌+◌, ◌*◌, ◌<◌}
use Rattle.std.specs.Prelude.{slice_get}
use Rattle.store_image_half.specs.Layout.{cut}
use Rattle.store_image_half.specs.Steps.{IsEntryPlace}
use Rattle.store_image_half.proofs.write.entries_sector.Given as goal

abbrev pub invariant-loop-j : goal.invariant-loop-j
invariant-loop-j l = (i : ℕ) → i < l.j → IsEntryPlace (cut l.bytes 64 i) (slice_get l.entries (8 * l.k + i))
