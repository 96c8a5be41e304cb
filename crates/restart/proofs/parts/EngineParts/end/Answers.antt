use Rattle.std.proofs.Common.{refl}
use Rattle.core_model.specs.Events as core
use Rattle.core_parts.specs.Moves.{txn_shown}
use Rattle.nsf_core.proofs.Offered.{skips_end}
use Rattle.restart.specs.declared.parts.EngineParts.{EngineParts}
use Rattle.restart.specs.declared.event.Reply.TheVariants as reply
use Rattle.restart.specs.Parts.{core_of}
use Rattle.restart.proofs.Answered.{answered_err, answered_ok, answered_still, has_change}
use Rattle.restart.proofs.parts.EngineParts.end.Goals as goal

pub returns-then-not-may_end : goal.returns-then-not-may_end
returns-then-not-may_end g c =
    let old = c.args.self.now in
    let has = has_change (txn_shown (core_of old) c.args.txn) c.may_end.result c.may_end.ensures c.if-not-may_end.true in
    answered_still (core.End c.args.txn) old reply.Skipped core.Skipped refl (skips_end (core_of old) c.args.txn has.0 has.1 has.2)

pub returns-in-Ok : goal.returns-in-Ok
returns-in-Ok g c =
    let old = c.args.self.now in
    let new : EngineParts g.row.D.Denot g.row.A.Denot = record old { core = c.end.new.self } in
    answered_ok (core.End c.args.txn) (λ _. core.Ended) _ old new c.end.ensures refl _ reply.Ended c.in-Ok.is refl

pub returns-in-Err : goal.returns-in-Err
returns-in-Err g c =
    let old = c.args.self.now in
    let new : EngineParts g.row.D.Denot g.row.A.Denot = record old { core = c.end.new.self } in
    answered_err (core.End c.args.txn) (λ _. core.Ended) _ old new c.end.ensures refl c.in-Err.error c.in-Err.is
