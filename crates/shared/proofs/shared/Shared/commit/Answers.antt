use Rattle.std.proofs.Common.{map, subst, ◌∙◌, ap}
use Rattle.core_model.specs.Events.{Event}
use Rattle.core_parts.specs.Replies.{reply_by, reply_of_ticket}
use Rattle.nsf_core.specs.Value.{value_of}
use Rattle.threads_sessions.specs.Halves.{shown}
use Rattle.threads_sessions.specs.Values.{is_active}
use Rattle.shared.specs.Seats.{SeatValue}
use Rattle.shared.specs.Served.{WasServedTo}
use Rattle.shared.proofs.Moments.{served_to}
use Rattle.threads_sessions.specs.Steps.{committed}
use Rattle.shared.proofs.SameSeat.{same_on_err, session_on_ok}
use Rattle.shared.proofs.shared.Shared.commit.Goals as goal

pub returns-clause-served : goal.returns-clause-served
returns-clause-served g c = λ own.
    let o = g.B.Group.site.opened in
    let was = c.deref_mut.result.now in
    let reply = reply_by reply_of_ticket c.commit-committed.result in
    subst (λ (s : SeatValue). ∥ WasServedTo o s.number s.session (Event.Commit c.args.txn) reply ∥₁) c.seat.view_is
    (served_to o (value_of was.core) (value_of c.commit-committed.new.self.core) was.pusher.records (map shown was.book.items) was.shared
    (Event.Commit c.args.txn) reply (c.commit-committed.ensures.served (ap (λ (s : SeatValue). is_active s.session c.args.txn) c.seat.view_is ∙ own)) _ _
    c.commit-committed.ensures.before)

pub returns-clause-foreign : goal.returns-clause-foreign
returns-clause-foreign g c = λ none. (c.commit-committed.ensures.foreign (ap (λ (s : SeatValue). is_active s.session c.args.txn) c.seat.view_is ∙ none)).0

pub returns-clause-ok : goal.returns-clause-ok
returns-clause-ok g c =
    let new = c.commit-committed in
    session_on_ok c.seat.inside.part new.new.seat c.seat.inside.view _ c.seat.view_is new.ensures.number new.result (λ s ticket.
    committed s c.args.txn ticket) new.ensures.ok

pub returns-clause-refused : goal.returns-clause-refused
returns-clause-refused g c = let new = c.commit-committed in
    same_on_err c.seat.inside.part new.new.seat c.seat.inside.view _ c.seat.view_is new.ensures.number new.result new.ensures.refused
