use Rattle.core_model.proofs.Followed.{step_record}
use Rattle.core_model.proofs.each_record_follows.Goals as goal

pub returns : goal.returns
returns c = step_record
