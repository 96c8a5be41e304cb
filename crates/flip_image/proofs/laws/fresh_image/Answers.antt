use Rattle.flip_image.proofs.Nothing as nothing
use Rattle.flip_image.proofs.laws.fresh_image.Goals as goal

pub returns-clause-image : goal.returns-clause-image
returns-clause-image c = nothing.fresh_image

pub returns-clause-fresh : goal.returns-clause-fresh
returns-clause-fresh c = nothing.image_fresh
