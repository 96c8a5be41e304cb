use Rattle.restart.proofs.Storied.{come_by}
use Rattle.restart.proofs.story.come_by_a_run.Goals as goal

pub returns : goal.returns
returns g c past engine is = come_by g.D.Device.past_of past engine is
