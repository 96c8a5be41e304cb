use Rattle.std.proofs.Common.{refl}
use Rattle.core_model.specs.Events as core
use Rattle.restart.specs.declared.event.Reply.TheVariants as reply
use Rattle.restart.proofs.Answered.{answered_still}
use Rattle.restart.proofs.parts.EngineParts.get.Goals as goal

pub returns : goal.returns
returns g c = answered_still (core.Get c.args.rid) c.args.self.now (reply.Row c.get.result) (core.RowIs c.get.result) refl c.get.ensures.serves
