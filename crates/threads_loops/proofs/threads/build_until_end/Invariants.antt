use Rattle.threads_loops.specs.Building.{HasBuilt}
use Rattle.threads_loops.proofs.threads.build_until_end.Given as goal

abbrev pub invariant-loop : goal.invariant-loop
invariant-loop g l = HasBuilt g.B.Group.site.opened l.fn.build l.completed l.build
