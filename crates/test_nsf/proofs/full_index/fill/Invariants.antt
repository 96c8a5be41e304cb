use Rattle.std.proofs.Common.{◌≡◌}
use Rattle.test_nsf.proofs.full_index.fill.Given as goal

abbrev pub invariant-loop-key : goal.invariant-loop-key
invariant-loop-key g l = l.seat.number ≡ l.fn.seat.number
