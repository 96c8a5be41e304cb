use Rattle.std.proofs.Common.{Some, map, subst, ap, ◌∙◌, ◌≡◌}
use Rattle.std.specs.Prelude.{slice_get}
use Rattle.core_parts.specs.View.{CoreValue}
use Rattle.nsf_core.specs.Counts.{AreCounts}
use Rattle.nsf_core.specs.Value.{value_of}
use Rattle.threads_sessions.specs.Halves.{shown}
use Rattle.locked_core.specs.Locked.{LockedValue}
use Rattle.shared.specs.Scans.{WasSeen}
use Rattle.shared.specs.Seats.{SeatValue}
use Rattle.shared.proofs.Scanned.{seen_by}
use Rattle.shared.proofs.shared.Shared.counts.Goals as goal

pub returns-clause-counts : goal.returns-clause-counts
returns-clause-counts g c =
    let o = g.B.Group.site.opened in
    let is = c.compare_seat.new.self in
    let part = c.seat.inside.part in
    let here : slice_get (map shown is.book.items) part.number ≡ Some part.session =
    ap (λ (l : LockedValue). slice_get l.book part.number) c.compare_seat.ensures.same ∙ c.compare_seat.ensures.before in
    subst (λ (s : SeatValue). ∥ WasSeen o s.number s.session (λ (core : CoreValue). AreCounts core c.counts_of-counts.result) ∥₁) c.seat.view_is
    (seen_by o (value_of is.core) is.pusher.records (map shown is.book.items) is.shared
    (λ (core : CoreValue). AreCounts core c.counts_of-counts.result) part.number part.session here c.counts_of-counts.ensures)
