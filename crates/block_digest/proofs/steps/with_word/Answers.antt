use Rattle.block_digest.specs.Digest.{with_word}
use Rattle.block_digest.proofs.steps.with_word.Goals as goal

pub returns : goal.returns
unfolding with_word
returns c = simp (c.rotate_left.ensures, c.round.ensures)
