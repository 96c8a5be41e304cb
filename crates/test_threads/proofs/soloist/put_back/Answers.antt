use Rattle.std.proofs.Common.{◌≡◌, ◌∙◌, ◌+◌, List, arith, length, subst, sym}
use Rattle.threads_lifetime.specs.Gathered.{AreAllSeats}
use Rattle.threads_lifetime.proofs.Orders.{one_more}
use Rattle.shared.specs.Seats.{SeatValue}
use Rattle.test_threads.proofs.soloist.put_back.Goals as goal

pub returns-in-Ok : goal.returns-in-Ok
returns-in-Ok g c =
    let seats = c.args.seats.now.items in
    let next : c.args.at.number ≡ length seats = omega (arith, c.if-at-len.false, c.len.ensures, c.args.seats.now.ok.0) in
    subst (λ (xs : List SeatValue). AreAllSeats (length seats + 1) xs) (sym c.in-Ok.ensures.items)
    (one_more (length seats) seats c.args.at.seat c.requires (c.args.at.is_so ∙ next))
