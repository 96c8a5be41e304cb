use Rattle.std.proofs.Common.{◌≡◌, ◌<◌, ℕ, Some}
use Rattle.std.specs.Prelude.{slice_get}
use Rattle.locked_core.specs.Locked.{locked_of}
use Rattle.shared.specs.Seats.{SeatValue}
use Rattle.threads_lifetime.proofs.gather.compare_all.Given as goal

abbrev pub invariant-loop-k : goal.invariant-loop-k
invariant-loop-k g l = record {
  seen : (j : ℕ) (s : SeatValue) → j < l.k → slice_get l.fn.seats.items j ≡ Some s → slice_get (locked_of l.fn.locked).book s.number ≡ Some s.session;
  seats : l.seats.items ≡ l.fn.seats.items;
  same : locked_of l.locked ≡ locked_of l.fn.locked;
}
