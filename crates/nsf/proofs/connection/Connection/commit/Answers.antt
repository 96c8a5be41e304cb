use Rattle.std.proofs.Common.{◌≡◌, ap, arith, refl, subst, sym}
use Rattle.core_model.specs.Events.{Event}
use Rattle.core_parts.specs.Replies.{reply_of_ticket}
use Rattle.core_parts.specs.declared.parts.Ticket.{Ticket}
use Rattle.threads_sessions.specs.Steps.{committed}
use Rattle.shared.specs.Seats.{SeatValue}
use Rattle.shared.specs.Served.{WasServedTo}
use Rattle.shared.specs.Waits.{IsNotAcked}
use Rattle.nsf.proofs.Connecting.{acked_commit, seat_then}
use Rattle.nsf.proofs.connection.Connection.commit.Goals as goal

pub returns-in-Ok-wait-clause-served : goal.returns-in-Ok-wait-clause-served
returns-in-Ok-wait-clause-served g c ready =
    let old = c.args.seat.now in
    subst (λ (t : Ticket). ∥ WasServedTo g.B.Group.site.opened old.number old.session (Event.Commit c.args.txn) (reply_of_ticket t) ∥₁)
    (sym c.in-Ok-wait.ensures.acked.0) (c.in-Ok.ensures.served ready)

pub returns-in-Ok-wait-clause-acked : goal.returns-in-Ok-wait-clause-acked
returns-in-Ok-wait-clause-acked g c =
    acked_commit c.args.seat.now c.commit_if_ready.new.seat c.wait.new.seat c.args.txn c.in-Ok.ticket c.in-Ok-wait.ack c.in-Ok.ensures.ok
    c.in-Ok-wait.ensures.acked

pub returns-in-Err-wait-clause-refused : goal.returns-in-Err-wait-clause-refused
returns-in-Err-wait-clause-refused g c =
    subst (λ (s : SeatValue). IsNotAcked c.in-Ok.ticket s c.wait.new.seat c.in-Err-wait.error) c.in-Ok.ensures.ok c.in-Err-wait.ensures.refused

pub returns-in-Ok-wait-clause-seat : goal.returns-in-Ok-wait-clause-seat
returns-in-Ok-wait-clause-seat g c = seat_then c.args.seat.now c.commit_if_ready.new.seat c.wait.new.seat
    (committed c.args.seat.now.session c.args.txn c.in-Ok.ticket) c.in-Ok.ensures.ok c.wait.ensures.seat

pub returns-in-Err-wait-clause-seat : goal.returns-in-Err-wait-clause-seat
returns-in-Err-wait-clause-seat g c = seat_then c.args.seat.now c.commit_if_ready.new.seat c.wait.new.seat
    (committed c.args.seat.now.session c.args.txn c.in-Ok.ticket) c.in-Ok.ensures.ok c.wait.ensures.seat

pub returns-in-Ok-wait-clause-rises : goal.returns-in-Ok-wait-clause-rises
returns-in-Ok-wait-clause-rises g c = omega (arith, ap (λ (s : SeatValue). s.sight.horizon) c.in-Ok.ensures.ok, c.wait.ensures.rises)

pub returns-in-Err-wait-clause-rises : goal.returns-in-Err-wait-clause-rises
returns-in-Err-wait-clause-rises g c = omega (arith, ap (λ (s : SeatValue). s.sight.horizon) c.in-Ok.ensures.ok, c.wait.ensures.rises)

pub returns-in-Err-clause-seat : goal.returns-in-Err-clause-seat
returns-in-Err-clause-seat g c =
    subst (λ (s : SeatValue). s ≡ record c.args.seat.now { session = s.session; sight = s.sight }) (sym c.in-Err.ensures.refused) refl

pub returns-in-Err-clause-rises : goal.returns-in-Err-clause-rises
returns-in-Err-clause-rises g c = omega (arith, ap (λ (s : SeatValue). s.sight.horizon) c.in-Err.ensures.refused)
