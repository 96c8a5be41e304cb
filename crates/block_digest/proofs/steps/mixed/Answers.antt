use Rattle.std.proofs.Common.{refl}
use Rattle.block_digest.specs.Digest.{mixed}
use Rattle.block_digest.proofs.steps.mixed.Goals as goal

pub returns : goal.returns
unfolding mixed
returns c = refl
