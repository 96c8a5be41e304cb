use Rattle.std.proofs.Common.{◌≡◌}
use Rattle.test_nsf.proofs.busy.write.Given as goal

abbrev pub invariant-loop-turns : goal.invariant-loop-turns
invariant-loop-turns g l = l.seat.number ≡ l.fn.seat.number
