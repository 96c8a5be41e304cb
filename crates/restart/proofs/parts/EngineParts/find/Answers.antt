use Rattle.std.proofs.Common.{refl}
use Rattle.core_model.specs.Events as core
use Rattle.restart.specs.declared.event.Reply.TheVariants as reply
use Rattle.restart.proofs.Answered.{answered_err, answered_ok}
use Rattle.restart.proofs.parts.EngineParts.find.Goals as goal

pub returns-in-Ok : goal.returns-in-Ok
returns-in-Ok g c = answered_ok (core.Find c.args.key) (λ rids. core.Found rids.items) _ c.args.self.now c.args.self.now c.find.ensures refl c.in-Ok.rids
    (reply.Found c.in-Ok.rids) c.in-Ok.is refl

pub returns-in-Err : goal.returns-in-Err
returns-in-Err g c = answered_err (core.Find c.args.key) (λ rids.
    core.Found rids.items) _ c.args.self.now c.args.self.now c.find.ensures refl c.in-Err.error c.in-Err.is
