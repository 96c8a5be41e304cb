use Rattle.std.proofs.Common.{◌≡◌, ◌≤◌}
use Rattle.shared.proofs.shared.Shared.await_ack.Given as goal

abbrev pub invariant-loop : goal.invariant-loop
invariant-loop g l = record {
  seen : l.seat ≡ record l.fn.seat { sight = record l.fn.seat.sight { horizon = l.seat.sight.horizon; checked = l.seat.sight.checked } };
  rises : l.fn.seat.sight.horizon ≤ l.seat.sight.horizon;
}
