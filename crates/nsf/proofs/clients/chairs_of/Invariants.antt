use Rattle.std.proofs.Common.{◌≡◌, ◌+◌, ◌++◌, ◌≤◌, length, map, vec_capacity}
use Rattle.nsf.proofs.clients.chairs_of.Given as goal

abbrev pub invariant-loop-seat : goal.invariant-loop-seat
invariant-loop-seat g l = record {
  seats : map (λ d. d.seat) l.chairs.items ++ l.seat-iterator.rest.items ≡ l.fn.seats.items;
  clients : map (λ d. d.client) l.chairs.items ++ l.waiting.rest.items ≡ l.fn.clients.items;
  even : length l.waiting.rest.items ≡ length l.seat-iterator.rest.items;
  room : length l.chairs.items + length l.seat-iterator.rest.items ≤ vec_capacity l.chairs;
}
