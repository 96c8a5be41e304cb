use Rattle.std.proofs.Common.{refl}
use Rattle.core_model.specs.Events as core
use Rattle.restart.specs.declared.parts.EngineParts.{EngineParts}
use Rattle.restart.specs.declared.event.Reply.TheVariants as reply
use Rattle.restart.proofs.Answered.{answered_err, answered_ok}
use Rattle.restart.proofs.parts.EngineParts.begin.Goals as goal

pub returns-in-Ok : goal.returns-in-Ok
returns-in-Ok g c =
    let old = c.args.self.now in
    let new : EngineParts g.row.D.Denot g.row.A.Denot = record old { core = c.begin.new.self } in
    answered_ok core.Begin core.Txn _ old new c.begin.ensures refl c.in-Ok.txn (reply.Txn c.in-Ok.txn) c.in-Ok.is refl

pub returns-in-Err : goal.returns-in-Err
returns-in-Err g c =
    let old = c.args.self.now in
    let new : EngineParts g.row.D.Denot g.row.A.Denot = record old { core = c.begin.new.self } in
    answered_err core.Begin core.Txn _ old new c.begin.ensures refl c.in-Err.error c.in-Err.is
