use Rattle.core_model.proofs.Logs.{stopped}
use Rattle.core_model.proofs.any_stop.Goals as goal

pub returns : goal.returns
returns c = stopped
