use Rattle.std.proofs.Common.{◌≡◌}
use Rattle.program_team.proofs.rows.put_rows.Given as goal

abbrev pub invariant-loop-row : goal.invariant-loop-row
invariant-loop-row g l = l.seat.number ≡ l.fn.seat.number
