use Rattle.std.proofs.Common.{true, inl, inr, refl, ap}
use Rattle.shared.proofs.SameSeat.{seat_with}
use Rattle.shared.proofs.Waiting.{not_set, nothing_then, stopped_then, unstopped_then}
use Rattle.shared.proofs.shared.Shared.ended.Goals as goal

pub returns-then-failed : goal.returns-then-failed
returns-then-failed g c =
    rw (← c.seat.view_is) (record {
      why = inl (refl, ap (seat_with c.seat.inside.part) c.if-failed.ensures.seen);
      none = tt;
      unfailed = tt;
      unstopped = tt;
    })

pub returns-then-stopped : goal.returns-then-stopped
returns-then-stopped g c =
    let view = c.seat.inside.view in
    let look = c.if-failed.ensures in
    rw (← c.seat.view_is) (record {
      why = inr (
        refl,
        not_set view.failed look.stays,
        ap (seat_with c.seat.inside.part) (stopped_then view c.failed.new.view c.stopped.new.view look.seen look.stays true c.if-stopped.ensures.seen),
      );
      none = tt;
      unfailed = tt;
      unstopped = tt;
    })

pub returns : goal.returns
returns g c =
    let view = c.seat.inside.view in
    let look = c.if-failed.ensures in
    let stop = c.if-stopped.ensures in
    rw (← c.seat.view_is) (record {
      why = tt;
      none = ap (seat_with c.seat.inside.part) (nothing_then view c.failed.new.view c.stopped.new.view look.seen look.stays stop.seen stop.stays);
      unfailed = not_set view.failed look.stays;
      unstopped = unstopped_then view c.failed.new.view c.stopped.new.view look.seen look.stays stop.stays;
    })
