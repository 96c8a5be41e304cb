use Rattle.std.proofs.Common.{Ok, ap, refl, ◌∙◌}
use Rattle.core_model.specs.Events as core
use Rattle.core_parts.specs.Undoing.{undone_reply}
use Rattle.restart.specs.declared.parts.EngineParts.{EngineParts}
use Rattle.restart.specs.declared.event.Reply.TheVariants as reply
use Rattle.restart.proofs.Answered.{answered_err, answered_ok}
use Rattle.restart.proofs.parts.EngineParts.undo.Goals as goal

pub returns-in-Ok-Step : goal.returns-in-Ok-Step
returns-in-Ok-Step g c =
    let old = c.args.self.now in
    let new : EngineParts g.row.D.Denot g.row.A.Denot = record old { core = c.undo_step.new.self } in
    answered_ok (core.Undo c.args.txn) undone_reply _ old new c.undo_step.ensures refl _ reply.Undone (c.in-Ok-Step.is ∙ ap Ok c.in-Ok-Step.field-0-is) refl

pub returns-in-Ok-Empty : goal.returns-in-Ok-Empty
returns-in-Ok-Empty g c =
    let old = c.args.self.now in
    let new : EngineParts g.row.D.Denot g.row.A.Denot = record old { core = c.undo_step.new.self } in
    answered_ok (core.Undo c.args.txn) undone_reply _ old new c.undo_step.ensures refl _ reply.Empty (c.in-Ok-Empty.is ∙ ap Ok c.in-Ok-Empty.field-0-is) refl

pub returns-in-Err : goal.returns-in-Err
returns-in-Err g c =
    let old = c.args.self.now in
    let new : EngineParts g.row.D.Denot g.row.A.Denot = record old { core = c.undo_step.new.self } in
    answered_err (core.Undo c.args.txn) undone_reply _ old new c.undo_step.ensures refl c.in-Err.error c.in-Err.is
