use Rattle.std.proofs.Common.{◌∙◌, List, subst, sym}
use Rattle.threads_lifetime.proofs.Orders.{all_but_last}
use Rattle.shared.specs.Seats.{AreNewSeats, SeatValue}
use Rattle.test_threads.proofs.soloist.take_last.Goals as goal

pub invariant_of-result : goal.invariant_of-result
invariant_of-result g c =
    let z = g.B.Group.site in
    let rest = c.pop.new.self in
    let new = subst (λ (items : List SeatValue). AreNewSeats z.board z.seats items) c.in_ok-seat.ensures.items c.requires in
    let last = all_but_last z.board z.seats rest.items c.in_ok-seat.seat new in
    record { is_so = last.1 ∙ sym (c.len-number.ensures ∙ rest.ok.0) }

pub returns-clause-others : goal.returns-clause-others
returns-clause-others g c =
    let z = g.B.Group.site in
    let new = subst (λ (items : List SeatValue). AreNewSeats z.board z.seats items) c.in_ok-seat.ensures.items c.requires in
    (all_but_last z.board z.seats c.pop.new.self.items c.in_ok-seat.seat new).0
