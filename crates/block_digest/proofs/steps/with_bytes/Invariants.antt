use Rattle.std.proofs.Common.{◌≡◌}
use Rattle.block_digest.specs.Digest.{with_bytes}
use Rattle.block_digest.proofs.steps.with_bytes.Given as goal

abbrev pub invariant-loop-n : goal.invariant-loop-n
invariant-loop-n l = l.so_far ≡ with_bytes l.bytes l.place l.sum l.n
