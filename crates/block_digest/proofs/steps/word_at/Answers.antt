use Rattle.block_digest.specs.Digest.{word_at}
use Rattle.block_digest.proofs.steps.word_at.Goals as goal

pub returns : goal.returns
unfolding word_at
returns c = c.from_le_bytes.ensures
