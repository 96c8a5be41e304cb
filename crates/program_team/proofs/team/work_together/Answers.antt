use Rattle.std.proofs.Common.{List, subst, sym}
use Rattle.shared.specs.Seats.{AreNewSeats, SeatValue}
use Rattle.program_team.proofs.team.work_together.Goals as goal

pub staff_of-requires : goal.staff_of-requires
staff_of-requires g c =
    let z = g.B.Group.site in
    subst (λ (seats : List SeatValue). AreNewSeats z.board z.seats seats) (sym c.split-seats.ensures.seats) c.requires.seats
