use Rattle.std.proofs.Common.{◌∙◌}
use Rattle.block_digest.specs.Digest.{half_at}
use Rattle.block_digest.proofs.steps.half_at.Goals as goal

pub returns : goal.returns
unfolding half_at
returns c = c.from.ensures ∙ c.from_le_bytes.ensures
