use Rattle.model.proofs.GivenLaws.{image_gives}
use Rattle.model.proofs.ImageLaws.{image_follows, redone_image}
use Rattle.model.proofs.laws.copied_image.Goals as goal

pub returns-clause-cells : goal.returns-clause-cells
returns-clause-cells c = redone_image

pub returns-clause-given : goal.returns-clause-given
returns-clause-given c = image_gives

pub returns-clause-following : goal.returns-clause-following
returns-clause-following c = image_follows
