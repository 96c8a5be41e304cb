use Rattle.std.proofs.Common.{refl}
use Rattle.core_model.specs.Events as core
use Rattle.core_parts.specs.Builds.{built}
use Rattle.restart.specs.declared.parts.EngineParts.{EngineParts}
use Rattle.restart.specs.declared.event.Reply.TheVariants as reply
use Rattle.restart.proofs.Answered.{answered_err, answered_ok}
use Rattle.restart.proofs.parts.EngineParts.build.Goals as goal

pub returns-in-Ok : goal.returns-in-Ok
returns-in-Ok g c =
    let old = c.args.self.now in
    let new : EngineParts g.row.D.Denot g.row.A.Denot = record old { core = c.build_step.new.self } in
    answered_ok core.Build built _ old new c.build_step.ensures refl c.in-Ok.done (reply.Built c.in-Ok.done) c.in-Ok.is refl

pub returns-in-Err : goal.returns-in-Err
returns-in-Err g c =
    let old = c.args.self.now in
    let new : EngineParts g.row.D.Denot g.row.A.Denot = record old { core = c.build_step.new.self } in
    answered_err core.Build built _ old new c.build_step.ensures refl c.in-Err.error c.in-Err.is
