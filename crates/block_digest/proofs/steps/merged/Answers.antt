use Rattle.block_digest.specs.Digest.{merged}
use Rattle.block_digest.proofs.steps.merged.Goals as goal

pub returns : goal.returns
unfolding merged
returns c = simp c.round.ensures
