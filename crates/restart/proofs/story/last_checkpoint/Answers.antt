use Rattle.restart.proofs.Checkpoints.{last_of_left}
use Rattle.restart.proofs.story.last_checkpoint.Goals as goal

pub returns : goal.returns
returns c story given pair is building = last_of_left story given pair is building
