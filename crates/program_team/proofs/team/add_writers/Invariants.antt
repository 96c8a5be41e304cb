use Rattle.std.proofs.Common.{◌≡◌, ◌++◌, [], map, Some, ℕ}
use Rattle.std.specs.Prelude.{slice_get}
use Rattle.program_team.proofs.team.add_writers.Given as goal

abbrev pub invariant-loop-seat : goal.invariant-loop-seat
invariant-loop-seat g l = record {
  seats : map (λ w. w.seat) l.writers.items ++ l.seat-iterator.rest.items ≡ l.fn.seats.items;
  none : (k : ℕ) (w : _) → slice_get l.writers.items k ≡ Some w → w.acknowledged.items ≡ [];
}
