use Rattle.std.proofs.Common.{◌≡◌}
use Rattle.shared.proofs.shared.Shared.create_patiently.Given as goal

abbrev pub invariant-loop : goal.invariant-loop
invariant-loop g l = l.seat ≡ l.fn.seat
