use Rattle.threads_loops.proofs.Steps.{looked_why}
use Rattle.threads_loops.proofs.build.build_loop.Goals as goal

pub returns-clause-why : goal.returns-clause-why
returns-clause-why g c = looked_why g.B.Group.site.opened _ c.build_until.result c.build_until.ensures.why
