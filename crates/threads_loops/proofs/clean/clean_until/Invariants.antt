use Rattle.std.proofs.Common.{◌≡◌}
use Rattle.threads_loops.proofs.clean.clean_until.Given as goal

abbrev pub invariant-loop : goal.invariant-loop
invariant-loop g l = l.part ≡ record l.fn.part { stopped = l.part.stopped }
