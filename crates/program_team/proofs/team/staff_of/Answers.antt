use Rattle.std.proofs.Common.{◌++◌, ◌∷◌, [], List, subst, sym}
use Rattle.shared.specs.Seats.{AreNewSeats, SeatValue}
use Rattle.threads_lifetime.specs.Gathered.{AreAllSeats}
use Rattle.program_team.proofs.Orders.{last_kept}
use Rattle.program_team.proofs.team.staff_of.Goals as goal

pub returns-in-Ok-clause-seats : goal.returns-in-Ok-clause-seats
returns-in-Ok-clause-seats g c =
    let z = g.B.Group.site in
    let seats : List SeatValue = c.pop.new.self.items in
    subst (λ (first : List SeatValue). AreAllSeats z.seats (first ++ c.prepare.new.seat ∷ [])) (sym c.in-Ok.ensures.seats)
    (last_kept z.board z.seats seats c.in-Some.last c.prepare.new.seat
    (subst (λ (items : List SeatValue). AreNewSeats z.board z.seats items) c.in-Some.ensures.items c.requires) c.prepare.ensures)
