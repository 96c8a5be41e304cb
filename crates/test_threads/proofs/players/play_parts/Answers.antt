use Rattle.std.proofs.Common.{List, subst, sym}
use Rattle.shared.specs.Seats.{AreNewSeats, SeatValue}
use Rattle.test_threads.proofs.players.play_parts.Goals as goal

pub chairs_of-requires : goal.chairs_of-requires
chairs_of-requires g c =
    let z = g.B.Group.site in
    subst (λ (items : List SeatValue). AreNewSeats z.board z.seats items) (sym c.split-seats.ensures.seats) c.requires
