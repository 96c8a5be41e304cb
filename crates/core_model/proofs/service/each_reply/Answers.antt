use Rattle.core_model.proofs.Served.{is_move}
use Rattle.core_model.proofs.service.each_reply.Goals as goal

pub returns : goal.returns
returns c = is_move
