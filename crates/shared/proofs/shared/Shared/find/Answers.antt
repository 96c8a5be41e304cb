use Rattle.std.proofs.Common.{Some, map, subst, ap, ◌∙◌, ◌≡◌}
use Rattle.std.specs.Prelude.{slice_get}
use Rattle.core_model.specs.Events.{Event, Reply}
use Rattle.core_parts.specs.Replies.{reply_by}
use Rattle.nsf_core.specs.Value.{value_of}
use Rattle.threads_sessions.specs.Halves.{shown}
use Rattle.locked_core.specs.Locked.{LockedValue}
use Rattle.shared.specs.Seats.{SeatValue}
use Rattle.shared.specs.Served.{WasServedTo}
use Rattle.shared.proofs.Moments.{served_to}
use Rattle.shared.proofs.shared.Shared.find.Goals as goal

pub returns-clause-served : goal.returns-clause-served
returns-clause-served g c =
    let o = g.B.Group.site.opened in
    let is = c.compare_seat.new.self in
    let part = c.seat.inside.part in
    let here : slice_get (map shown is.book.items) part.number ≡ Some part.session =
    ap (λ (l : LockedValue). slice_get l.book part.number) c.compare_seat.ensures.same ∙ c.compare_seat.ensures.before in
    subst (λ (s : SeatValue). ∥ WasServedTo o s.number s.session (Event.Find c.args.key) (reply_by (λ rids. Reply.Found rids.items) c.find-found.result) ∥₁)
    c.seat.view_is
    (served_to o (value_of is.core) (value_of is.core) is.pusher.records (map shown is.book.items) is.shared (Event.Find c.args.key)
    (reply_by (λ rids. Reply.Found rids.items) c.find-found.result) c.find-found.ensures part.number part.session here)
