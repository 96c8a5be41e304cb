use Rattle.std.proofs.Common.{◌∙◌, ◌++◌, ◌∷◌, ℕ, List, [], length, subst, sym}
use Rattle.threads_lifetime.specs.Gathered.{AreAllSeats}
use Rattle.threads_lifetime.proofs.Orders.{all_but_last, one_more}
use Rattle.shared.specs.Seats.{AreNewSeats, SeatValue}
use Rattle.test_nsf.proofs.ended.put_and_end.Goals as goal

pub end-requires : goal.end-requires
end-requires g c =
    let z = g.B.Group.site in
    let seats : List SeatValue = c.pop.new.self.items in
    let put = c.put_one-put.new.seat in
    let parted = all_but_last z.board z.seats seats c.in-Some.seat
    (subst (λ (items : List SeatValue). AreNewSeats z.board z.seats items) c.in-Some.ensures.items c.requires) in
    subst (λ (items : List SeatValue). AreAllSeats z.seats items) (sym c.in-Ok.ensures.items)
    (subst (λ (n : ℕ). AreAllSeats n (seats ++ put ∷ [])) parted.2
    (one_more (length seats) seats put parted.0 (c.put_one-put.ensures ∙ parted.1)))
