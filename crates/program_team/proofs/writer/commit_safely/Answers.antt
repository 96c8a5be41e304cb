use Rattle.std.proofs.Common.{ap, refl}
use Rattle.shared.specs.Seats.{SeatValue}
use Rattle.program_team.proofs.Keeping.{adds_none, adds_one, keeps_commits, on_err, waited_keeps}
use Rattle.program_team.proofs.writer.commit_safely.Goals as goal

pub returns-in_err-ticket-clause-err : goal.returns-in_err-ticket-clause-err
returns-in_err-ticket-clause-err g c = on_err c.from_residual.result (adds_none c.args.seat.now c.commit.new.seat c.in_err-ticket.ensures.refused)

pub returns-in_err-ack-clause-err : goal.returns-in_err-ack-clause-err
returns-in_err-ack-clause-err g c =
    let begun = c.commit.new.seat in
    let after = c.await_ack.new.seat in
    on_err c.from_residual-in_err-ack.result
    (adds_one c.args.seat.now after c.in_ok-ticket.ticket (keeps_commits c.args.seat.now begun after c.in_ok-ticket.ticket c.in_ok-ticket.ensures.ok
    (waited_keeps c.in_err-ack.field-0.0 begun (record begun { sight = record begun.sight { horizon = after.sight.horizon } }) after refl refl
    c.in_err-ack.ensures.refused.1)))

pub returns-clause-ok : goal.returns-clause-ok
returns-clause-ok g c = (
  keeps_commits c.args.seat.now c.commit.new.seat c.await_ack.new.seat c.in_ok-ticket.ticket c.in_ok-ticket.ensures.ok
      (ap (λ (s : SeatValue). s.number) c.in_ok-ack.ensures.acked.3, ap (λ (s : SeatValue). s.session.commits) c.in_ok-ack.ensures.acked.3),
  c.in_ok-ack.ensures.acked.0,
)
