use Rattle.std.proofs.Common.{◌≤◌, Some, ap, arith, subst}
use Rattle.record_values.specs.declared.row.Row.{Row}
use Rattle.shared.specs.AtOnce.{with_commit}
use Rattle.shared.specs.Seats.{SeatValue}
use Rattle.shared.specs.Waits.{IsNotAcked}
use Rattle.nsf.proofs.Connecting.{safely_put, seat_made, seat_then}
use Rattle.nsf.proofs.connection.Connection.put.Goals as goal
use Rattle.nsf.proofs.connection.Connection.put.Goals.{in-Ok-wait, in-Err-wait}

pub returns-after-wait : goal.returns-after-wait
returns-after-wait g c =
    let o = g.B.Group.site.opened in
    let old = c.args.seat.now in
    let mid = c.put.new.seat in
    let new = c.wait.new.seat in
    let row : Row = record { key = c.args.key; body = c.args.body } in
    let placed = c.in-Ok.placed in
    let made = c.in-Ok.ensures.committed in
    let sees = c.wait.ensures.seat in
    let seat = seat_then old mid new (with_commit old.session placed.ticket (record { rid = placed.rid; row = Some row })) made sees in
    let rises : old.sight.horizon ≤ new.sight.horizon = omega (arith, ap (λ (s : SeatValue). s.sight.horizon) made, c.wait.ensures.rises) in
    elim c.match-wait.branch [
      | in-Ok-wait w ↦ rw w.result-is (record {
        put = safely_put o old mid new row placed _ made c.in-Ok.ensures.made w.in-Ok-wait.ensures.acked sees;
        refused = tt;
        nothing_stays = tt;
        left = tt;
        why_left = tt;
        not_safe = tt;
        seat = seat;
        rises = rises;
      })
      | in-Err-wait w ↦ rw w.result-is (record {
        put = tt;
        refused = tt;
        nothing_stays = tt;
        left = tt;
        why_left = tt;
        not_safe = (c.in-Ok.ensures.made, subst (λ (s : SeatValue). IsNotAcked placed.ticket s new w.in-Err-wait.error) made w.in-Err-wait.ensures.refused);
        seat = seat;
        rises = rises;
      })
    ]

pub returns-in-Err : goal.returns-in-Err
returns-in-Err g c =
    let not = c.in-Err.ensures in
    record {
      put = tt;
      refused = not.refused;
      nothing_stays = not.nothing_stays;
      left = not.left;
      why_left = not.why_left;
      not_safe = tt;
      seat = seat_made c.args.seat.now c.put.new.seat not.seat;
      rises = omega (arith, ap (λ (s : SeatValue). s.sight.horizon) not.seat);
    }
