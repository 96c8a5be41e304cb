use Rattle.flip_image.proofs.Sides.{other_apart, behind_front, image_inside, log_inside, parts_apart}
use Rattle.flip_image.proofs.laws.halves_apart.Goals as goal

pub returns-clause-other : goal.returns-clause-other
returns-clause-other c = other_apart

pub returns-clause-front : goal.returns-clause-front
returns-clause-front c = behind_front

pub returns-clause-image : goal.returns-clause-image
returns-clause-image c = image_inside

pub returns-clause-log : goal.returns-clause-log
returns-clause-log c = log_inside

pub returns-clause-parts : goal.returns-clause-parts
returns-clause-parts c = parts_apart
