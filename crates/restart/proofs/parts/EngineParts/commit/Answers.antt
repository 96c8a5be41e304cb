use Rattle.std.proofs.Common.{refl}
use Rattle.core_model.specs.Events as core
use Rattle.core_parts.specs.Replies.{reply_of_ticket}
use Rattle.restart.specs.declared.parts.EngineParts.{EngineParts}
use Rattle.restart.specs.declared.event.Reply.TheVariants as reply
use Rattle.nsf_core.proofs.Offered.{skips_commit}
use Rattle.restart.specs.Parts.{core_of}
use Rattle.restart.proofs.Answered.{answered_err, answered_ok, answered_still}
use Rattle.restart.proofs.parts.EngineParts.commit.Goals as goal

pub returns-then-is_unready : goal.returns-then-is_unready
returns-then-is_unready g c =
    let old = c.args.self.now in
    answered_still (core.Commit c.args.txn) old reply.Skipped core.Skipped refl
    (skips_commit (core_of old) c.args.txn (c.is_unready.ensures.yes c.if-is_unready.true))

pub returns-in-Ok : goal.returns-in-Ok
returns-in-Ok g c =
    let old = c.args.self.now in
    let new : EngineParts g.row.D.Denot g.row.A.Denot = record old { core = c.commit.new.self } in
    answered_ok (core.Commit c.args.txn) reply_of_ticket _ old new c.commit.ensures.serves refl c.in-Ok.ticket (reply.Ticket c.in-Ok.ticket) c.in-Ok.is refl

pub returns-in-Err : goal.returns-in-Err
returns-in-Err g c =
    let old = c.args.self.now in
    let new : EngineParts g.row.D.Denot g.row.A.Denot = record old { core = c.commit.new.self } in
    answered_err (core.Commit c.args.txn) reply_of_ticket _ old new c.commit.ensures.serves refl c.in-Err.error c.in-Err.is
