use Rattle.block_digest.specs.Digest.{round}
use Rattle.block_digest.proofs.steps.round.Goals as goal

pub returns : goal.returns
unfolding round
returns c = simp c.rotate_left.ensures
