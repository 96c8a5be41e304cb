use Rattle.std.proofs.Common.{◌≡◌, ℕ, ◌<◌}
use Rattle.std.specs.Prelude.{slice_get}
use Rattle.store_image_parts.specs.Spelling.{head}
use Rattle.store_image_half.specs.Layout.{cut}
use Rattle.store_image_half.proofs.write.heads_sector.Given as goal

abbrev pub invariant-loop-k : goal.invariant-loop-k
invariant-loop-k l = (i : ℕ) → i < l.k → cut l.bytes 32 i ≡ head (slice_get l.heads i)
