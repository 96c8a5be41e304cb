use Rattle.std.proofs.Common.{map, subst}
use Rattle.core_model.specs.Events.{Event}
use Rattle.core_parts.specs.Replies.{reply_by, reply_of_ticket}
use Rattle.nsf_core.specs.Value.{value_of}
use Rattle.threads_sessions.specs.Halves.{shown}
use Rattle.shared.specs.Seats.{SeatValue}
use Rattle.shared.specs.Served.{WasServedTo}
use Rattle.shared.proofs.Moments.{served_to}
use Rattle.core_parts.specs.declared.parts.Ticket.{Ticket}
use Rattle.threads_sessions.specs.Steps.{with_turn}
use Rattle.threads_sessions.specs.Values.{SessionValue}
use Rattle.threads_sessions.specs.declared.turn.Turn.TheVariants.{Created}
use Rattle.shared.proofs.SameSeat.{same_on_err, session_on_ok}
use Rattle.shared.proofs.shared.Shared.create_index.Goals as goal

pub returns-clause-served : goal.returns-clause-served
returns-clause-served g c =
    let o = g.B.Group.site.opened in
    let was = c.deref_mut.result.now in
    let reply = reply_by reply_of_ticket c.create_index-created.result in
    subst (λ (s : SeatValue). ∥ WasServedTo o s.number s.session Event.Create reply ∥₁) c.seat.view_is
    (served_to o (value_of was.core) (value_of c.create_index-created.new.self.core) was.pusher.records
    (map shown was.book.items) was.shared Event.Create reply c.create_index-created.ensures.served _ _ c.create_index-created.ensures.before)

pub returns-clause-ok : goal.returns-clause-ok
returns-clause-ok g c =
    let new = c.create_index-created in
    session_on_ok c.seat.inside.part new.new.seat c.seat.inside.view _ c.seat.view_is new.ensures.number new.result (λ (s : SessionValue) (ticket : Ticket).
    with_turn s (Created ticket.«record»)) new.ensures.ok

pub returns-clause-refused : goal.returns-clause-refused
returns-clause-refused g c = let new = c.create_index-created in
    same_on_err c.seat.inside.part new.new.seat c.seat.inside.view _ c.seat.view_is new.ensures.number new.result new.ensures.refused
