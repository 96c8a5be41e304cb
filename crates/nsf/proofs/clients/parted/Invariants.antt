use Rattle.std.proofs.Common.{◌≡◌, ◌+◌, ◌++◌, ◌≤◌, length, map, vec_capacity}
use Rattle.nsf.proofs.clients.parted.Given as goal

abbrev pub invariant-loop-chair : goal.invariant-loop-chair
invariant-loop-chair g l = record {
  clients : l.clients.items ++ map (λ d. d.client) l.chair-iterator.rest.items ≡ map (λ d. d.client) l.fn.chairs.items;
  seats : l.seats.items ++ map (λ d. d.seat) l.chair-iterator.rest.items ≡ map (λ d. d.seat) l.fn.chairs.items;
  marks : l.marks.items ++ map (λ d. d.seat.sight.mark) l.chair-iterator.rest.items ≡ map (λ d. d.seat.sight.mark) l.fn.chairs.items;
  room : length l.clients.items + length l.chair-iterator.rest.items ≤ vec_capacity l.clients;
  places : length l.seats.items + length l.chair-iterator.rest.items ≤ vec_capacity l.seats;
  spaces : length l.marks.items + length l.chair-iterator.rest.items ≤ vec_capacity l.marks;
}
