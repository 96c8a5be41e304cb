use Rattle.std.proofs.Common.{map, refl}
use Rattle.std.proofs.lemmas.Result.{err_from_is_err_and}
use Rattle.core_model.specs.Events.{Event, Refused}
use Rattle.core_parts.specs.Replies.{reply_of_ticket}
use Rattle.nsf_core.specs.Value.{value_of}
use Rattle.threads_sessions.specs.Halves.{shown}
use Rattle.threads_sessions.specs.Steps.{with_turn}
use Rattle.threads_sessions.specs.Values.{SessionValue}
use Rattle.threads_sessions.specs.declared.turn.Turn.TheVariants.{Dropped}
use Rattle.shared.proofs.Moments.{served_to}
use Rattle.shared.proofs.SameSeat.{same_session, with_session}
use Rattle.shared.proofs.shared.Shared.drop_index.Goals as goal

pub returns-in_err-dropped : goal.returns-in_err-dropped
returns-in_err-dropped g c =
    let p = err_from_is_err_and c.from_residual.result c.from_residual.ensures.1 in
    let was = c.deref_mut.result.now in
    let step = c.drop_index-dropped in
    rw (← c.seat.view_is) (rw (p.1, p.2) (record {
      served = served_to g.B.Group.site.opened (value_of was.core) (value_of step.new.self.core) was.pusher.records (map shown was.book.items) was.shared
          Event.Drop (Refused c.in_err-dropped.field-0.0) c.in_err-dropped.ensures.served _ _ step.ensures.before;
      ok = tt;
      refused = same_session c.seat.inside.part step.new.seat c.seat.inside.view _ refl step.ensures.number c.in_err-dropped.ensures.refused;
    }))

pub returns : goal.returns
returns g c =
    let was = c.deref_mut.result.now in
    let step = c.drop_index-dropped in
    rw (← c.seat.view_is) (record {
      served = served_to g.B.Group.site.opened (value_of was.core) (value_of step.new.self.core) was.pusher.records (map shown was.book.items) was.shared
          Event.Drop (reply_of_ticket c.in_ok-dropped.field-0.ticket) c.in_ok-dropped.ensures.served _ _ step.ensures.before;
      ok = with_session c.seat.inside.part step.new.seat c.seat.inside.view _ refl step.ensures.number (λ (s : SessionValue).
          with_turn s (Dropped c.in_ok-dropped.field-0.ticket.«record»)) c.in_ok-dropped.ensures.ok;
      refused = tt;
    })
