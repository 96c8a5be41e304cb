use Rattle.std.proofs.Common.{refl}
use Rattle.core_model.specs.Events as core
use Rattle.core_parts.specs.Replies.{reply_of_ticket}
use Rattle.restart.specs.declared.parts.EngineParts.{EngineParts}
use Rattle.restart.specs.declared.event.Reply.TheVariants as reply
use Rattle.restart.proofs.Answered.{answered_err, answered_ok}
use Rattle.restart.proofs.parts.EngineParts.drop_index.Goals as goal

pub returns-in-Ok : goal.returns-in-Ok
returns-in-Ok g c =
    let old = c.args.self.now in
    let new : EngineParts g.row.D.Denot g.row.A.Denot = record old { core = c.drop_index.new.self } in
    answered_ok core.Drop reply_of_ticket _ old new c.drop_index.ensures refl c.in-Ok.dropped (reply.Ticket c.in-Ok.dropped) c.in-Ok.is refl

pub returns-in-Err : goal.returns-in-Err
returns-in-Err g c =
    let old = c.args.self.now in
    let new : EngineParts g.row.D.Denot g.row.A.Denot = record old { core = c.drop_index.new.self } in
    answered_err core.Drop reply_of_ticket _ old new c.drop_index.ensures refl c.in-Err.error c.in-Err.is
