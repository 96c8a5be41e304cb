use Rattle.std.proofs.Common.{refl}
use Rattle.core_model.specs.Events as core
use Rattle.restart.specs.declared.parts.EngineParts.{EngineParts}
use Rattle.restart.specs.declared.event.Reply.TheVariants as reply
use Rattle.nsf_core.proofs.Offered.{skips_step}
use Rattle.restart.specs.Parts.{core_of}
use Rattle.restart.proofs.Answered.{answered_err, answered_ok, answered_still}
use Rattle.restart.proofs.parts.EngineParts.owed_step.Goals as goal

pub returns-then-owes_none : goal.returns-then-owes_none
returns-then-owes_none g c =
    let old = c.args.self.now in
    answered_still (core.Step c.args.txn) old reply.Skipped core.Skipped refl
    (skips_step (core_of old) c.args.txn (c.owes_none.ensures.yes c.if-owes_none.true))

pub returns-in-Ok : goal.returns-in-Ok
returns-in-Ok g c =
    let old = c.args.self.now in
    let new : EngineParts g.row.D.Denot g.row.A.Denot = record old { core = c.next_step.new.self } in
    answered_ok (core.Step c.args.txn) (λ _. core.Stepped) _ old new c.next_step.ensures refl _ reply.Stepped c.in-Ok.is refl

pub returns-in-Err : goal.returns-in-Err
returns-in-Err g c =
    let old = c.args.self.now in
    let new : EngineParts g.row.D.Denot g.row.A.Denot = record old { core = c.next_step.new.self } in
    answered_err (core.Step c.args.txn) (λ _. core.Stepped) _ old new c.next_step.ensures refl c.in-Err.error c.in-Err.is
