use Rattle.core_model.proofs.Logs.{recovers}
use Rattle.core_model.proofs.any_record.Goals as goal

pub returns : goal.returns
returns c = recovers
