use Rattle.std.proofs.Common.{Some, map, subst, ap, ◌∙◌, ◌≡◌}
use Rattle.std.specs.Option.{option_copied}
use Rattle.std.specs.Prelude.{slice_get}
use Rattle.core_parts.specs.View.{CoreValue}
use Rattle.core_scan.specs.Backward.{IsPageBackOf}
use Rattle.nsf_core.specs.Value.{value_of}
use Rattle.threads_sessions.specs.Halves.{shown}
use Rattle.locked_core.specs.Locked.{LockedValue}
use Rattle.shared.specs.Scans.{WasSeen}
use Rattle.shared.specs.Seats.{SeatValue}
use Rattle.shared.proofs.Scanned.{seen_by}
use Rattle.shared.proofs.shared.Shared.scan_back.Goals as goal

pub returns-clause-page : goal.returns-clause-page
returns-clause-page g c =
    let o = g.B.Group.site.opened in
    let is = c.compare_seat.new.self in
    let part = c.seat.inside.part in
    let here : slice_get (map shown is.book.items) part.number ≡ Some part.session =
    ap (λ (l : LockedValue). slice_get l.book part.number) c.compare_seat.ensures.same ∙ c.compare_seat.ensures.before in
    let before = option_copied c.args.before in
    subst (λ (s : SeatValue). ∥ WasSeen o s.number s.session (λ (core : CoreValue).
    IsPageBackOf core.index.entries core.life c.args.range.now before c.args.limit c.page_back_of-page.result) ∥₁) c.seat.view_is
    (seen_by o (value_of is.core) is.pusher.records (map shown is.book.items) is.shared
    (λ (core : CoreValue). IsPageBackOf core.index.entries core.life c.args.range.now before c.args.limit c.page_back_of-page.result) part.number
    part.session here
    c.page_back_of-page.ensures)
