use Rattle.std.proofs.Common.{◌≡◌, ◌+◌, ◌≤◌, length, vec_capacity}
use Rattle.shared.specs.Seats.{AreNewSeats, HasSeenNothing}
use Rattle.shared.proofs.Seats.{AreFrom}
use Rattle.shared.proofs.opening.seats_of.Given as goal

abbrev pub invariant-loop-half : goal.invariant-loop-half
invariant-loop-half g l = record {
  seats : AreNewSeats g.B.Group.site.board l.number l.seats.items;
  board : l.view.board ≡ g.B.Group.site.board;
  nothing : HasSeenNothing g.B.Group.site.board l.view;
  left : l.number + length l.half-iterator.rest.items ≡ g.B.Group.site.seats;
  halves : AreFrom g.B.Group.site.table l.number l.half-iterator.rest.items;
  room : length l.seats.items + length l.half-iterator.rest.items ≤ vec_capacity l.seats;
}
