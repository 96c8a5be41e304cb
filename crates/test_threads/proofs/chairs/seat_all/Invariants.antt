use Rattle.std.proofs.Common.{◌≡◌, ◌++◌, map}
use Rattle.test_threads.proofs.chairs.seat_all.Given as goal

abbrev pub invariant-loop-seat : goal.invariant-loop-seat
invariant-loop-seat g l = map (λ c. c.at.seat) l.chairs.items ++ l.seat-iterator.rest.items ≡ l.fn.seats.items
