use Rattle.threads_loops.specs.Through.{HasPassedPages}
use Rattle.threads_loops.proofs.flush.pass_pages.Given as goal

abbrev pub invariant-loop : goal.invariant-loop
invariant-loop g l = HasPassedPages g.D.Device.past_of g.D.Device.marks g.D.Device.failures g.B.Group.site.opened l.fn.part l.part
