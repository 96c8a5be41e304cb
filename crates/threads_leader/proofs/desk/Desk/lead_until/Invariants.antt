use Rattle.std.proofs.Common.{◌≤◌}
use Rattle.threads_leader.proofs.Waiting.{HasLooked}
use Rattle.threads_leader.proofs.desk.Desk.lead_until.Given as goal

abbrev pub invariant-loop : goal.invariant-loop
invariant-loop g l = record {
  seen : HasLooked l.fn.seat l.seat;
  rises : l.fn.seat.sight.horizon ≤ l.seat.sight.horizon;
}
