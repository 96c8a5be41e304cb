use Rattle.restart.proofs.Living.{opens_nothing}
use Rattle.restart.proofs.lives.nothing_opens.Goals as goal

pub returns : goal.returns
returns c g = opens_nothing g
