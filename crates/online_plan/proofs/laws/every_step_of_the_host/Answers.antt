use Rattle.online_plan.proofs.Following.{host_goes}
use Rattle.online_plan.proofs.laws.every_step_of_the_host.Goals as goal

pub returns : goal.returns
returns c v w e f i enabled = host_goes v w e f i
