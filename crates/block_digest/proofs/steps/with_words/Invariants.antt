use Rattle.std.proofs.Common.{◌≡◌}
use Rattle.block_digest.specs.Digest.{with_words}
use Rattle.block_digest.proofs.steps.with_words.Given as goal

abbrev pub invariant-loop-n : goal.invariant-loop-n
invariant-loop-n l = l.so_far ≡ with_words l.bytes l.place l.sum l.n
