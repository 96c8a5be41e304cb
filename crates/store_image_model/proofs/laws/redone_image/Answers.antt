use Rattle.store_image_model.proofs.Runs.{redone, redone_following, reached}
use Rattle.store_image_model.proofs.laws.redone_image.Goals as goal

pub returns-clause-redone : goal.returns-clause-redone
returns-clause-redone c = redone

pub returns-clause-following : goal.returns-clause-following
returns-clause-following c = redone_following

pub returns-clause-reached : goal.returns-clause-reached
returns-clause-reached c = reached
