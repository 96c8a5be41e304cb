use Rattle.threads_loops.proofs.Passing.{passed_then}
use Rattle.threads_loops.proofs.flush.pass_pages.Goals as goal

pub loop-init : goal.loop-init
loop-init g c = c.pass_one.ensures.passed c.if-not-pass_one.false

pub loop-preserved : goal.loop-preserved
loop-preserved g c =
    passed_then g.D.Device.past_of g.D.Device.failures g.B.Group.site.opened c.args.part.now c.loop.part c.pass_one-in-loop.new.part c.loop.invariant
    (c.pass_one-in-loop.ensures.passed c.if-not-pass_one-2.false)
