use Rattle.std.proofs.Common.{map, subst}
use Rattle.core_model.specs.Events.{Event, Reply}
use Rattle.core_parts.specs.Replies.{reply_by}
use Rattle.nsf_core.specs.Value.{value_of}
use Rattle.threads_sessions.specs.Halves.{shown}
use Rattle.shared.specs.Seats.{SeatValue}
use Rattle.shared.specs.Served.{WasServedTo}
use Rattle.shared.proofs.Moments.{served_to}
use Rattle.threads_sessions.specs.Steps.{begun}
use Rattle.shared.proofs.SameSeat.{same_on_err, session_on_ok}
use Rattle.shared.proofs.shared.Shared.begin.Goals as goal

pub returns-clause-served : goal.returns-clause-served
returns-clause-served g c =
    let o = g.B.Group.site.opened in
    let was = c.deref_mut-2.result.now in
    let reply = reply_by Reply.Txn c.begin-begun.result in
    subst (λ (s : SeatValue). ∥ WasServedTo o s.number s.session Event.Begin reply ∥₁) c.seat.view_is
    (served_to o (value_of was.core) (value_of c.begin-begun.new.self.core) was.pusher.records
    (map shown was.book.items) was.shared Event.Begin reply c.begin-begun.ensures.served _ _ c.begin-begun.ensures.before)

pub returns-clause-ok : goal.returns-clause-ok
returns-clause-ok g c = let new = c.begin-begun in
    session_on_ok c.seat.inside.part new.new.seat c.seat.inside.view _ c.seat.view_is new.ensures.number new.result begun new.ensures.ok

pub returns-clause-refused : goal.returns-clause-refused
returns-clause-refused g c = let new = c.begin-begun in
    same_on_err c.seat.inside.part new.new.seat c.seat.inside.view _ c.seat.view_is new.ensures.number new.result new.ensures.refused
