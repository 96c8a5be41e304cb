use Rattle.core_model.proofs.Logs.{interleaved}
use Rattle.core_model.proofs.every_order.Goals as goal

pub returns : goal.returns
returns c = interleaved
