use Rattle.std.proofs.Common.{Some, map, subst, ap, ◌∙◌, ◌≡◌}
use Rattle.std.specs.FinMap.{get}
use Rattle.std.specs.Prelude.{slice_get}
use Rattle.core_parts.specs.View.{CoreValue}
use Rattle.core_laws.specs.Holds.{committed_rows}
use Rattle.nsf_core.specs.Value.{value_of}
use Rattle.threads_sessions.specs.Halves.{shown}
use Rattle.locked_core.specs.Locked.{LockedValue}
use Rattle.shared.specs.Scans.{WasSeen}
use Rattle.shared.specs.Seats.{SeatValue}
use Rattle.shared.proofs.Scanned.{seen_by}
use Rattle.shared.proofs.shared.Shared.get_committed.Goals as goal

pub returns-clause-row : goal.returns-clause-row
returns-clause-row g c =
    let o = g.B.Group.site.opened in
    let is = c.compare_seat.new.self in
    let part = c.seat.inside.part in
    let here : slice_get (map shown is.book.items) part.number ≡ Some part.session =
    ap (λ (l : LockedValue). slice_get l.book part.number) c.compare_seat.ensures.same ∙ c.compare_seat.ensures.before in
    subst (λ (s : SeatValue). ∥ WasSeen o s.number s.session (λ (core : CoreValue).
    c.row_of-row.result ≡ get (committed_rows core) c.args.rid) ∥₁) c.seat.view_is
    (seen_by o (value_of is.core) is.pusher.records (map shown is.book.items) is.shared
    (λ (core : CoreValue). c.row_of-row.result ≡ get (committed_rows core) c.args.rid) part.number part.session here
    c.row_of-row.ensures)
