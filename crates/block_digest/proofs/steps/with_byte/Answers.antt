use Rattle.block_digest.specs.Digest.{with_byte}
use Rattle.block_digest.proofs.steps.with_byte.Goals as goal

pub returns : goal.returns
unfolding with_byte
returns c = simp (c.rotate_left.ensures, c.from.ensures)
