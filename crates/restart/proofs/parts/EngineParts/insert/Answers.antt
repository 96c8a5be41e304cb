use Rattle.std.proofs.Common.{refl}
use Rattle.core_model.specs.Events as core
use Rattle.restart.specs.declared.parts.EngineParts.{EngineParts}
use Rattle.restart.specs.declared.event.Reply.TheVariants as reply
use Rattle.nsf_core.proofs.Offered.{skips_insert}
use Rattle.restart.specs.Parts.{core_of}
use Rattle.restart.proofs.Answered.{answered_err, answered_ok, answered_still}
use Rattle.restart.proofs.parts.EngineParts.insert.Goals as goal

pub returns-then-is_unready : goal.returns-then-is_unready
returns-then-is_unready g c =
    let old = c.args.self.now in
    answered_still (core.Insert c.args.txn (record { key = c.args.key; body = c.args.body })) old reply.Skipped core.Skipped refl
    (skips_insert (core_of old) c.args.txn (record { key = c.args.key; body = c.args.body }) (c.is_unready.ensures.yes c.if-is_unready.true))

pub returns-in-Ok : goal.returns-in-Ok
returns-in-Ok g c =
    let old = c.args.self.now in
    let new : EngineParts g.row.D.Denot g.row.A.Denot = record old { core = c.start_insert.new.self } in
    answered_ok (core.Insert c.args.txn (record { key = c.args.key; body = c.args.body })) core.Rid _ old new c.start_insert.ensures refl c.in-Ok.rid
    (reply.Rid c.in-Ok.rid) c.in-Ok.is refl

pub returns-in-Err : goal.returns-in-Err
returns-in-Err g c =
    let old = c.args.self.now in
    let new : EngineParts g.row.D.Denot g.row.A.Denot = record old { core = c.start_insert.new.self } in
    answered_err (core.Insert c.args.txn (record { key = c.args.key; body = c.args.body })) core.Rid _ old new c.start_insert.ensures refl c.in-Err.error
    c.in-Err.is
