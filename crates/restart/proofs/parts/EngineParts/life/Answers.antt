use Rattle.std.proofs.Common.{refl}
use Rattle.core_model.specs.Events as core
use Rattle.restart.specs.declared.event.Reply.TheVariants as reply
use Rattle.restart.proofs.Answered.{answered_still}
use Rattle.restart.proofs.parts.EngineParts.life.Goals as goal

pub returns : goal.returns
returns g c = answered_still core.Life c.args.self.now (reply.Life c.life.result) (core.LifeIs c.life.result) refl c.life.ensures.serves
