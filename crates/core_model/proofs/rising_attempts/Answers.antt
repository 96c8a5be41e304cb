use Rattle.core_model.proofs.Attempts.{above_checkpoint, above_opened}
use Rattle.core_model.proofs.rising_attempts.Goals as goal

pub returns-clause-rising : goal.returns-clause-rising
returns-clause-rising c = λ s p can. can.rising

pub returns-clause-checkpointed : goal.returns-clause-checkpointed
returns-clause-checkpointed c = above_checkpoint

pub returns-clause-opened : goal.returns-clause-opened
returns-clause-opened c = above_opened
