use Rattle.threads_leader.proofs.Leading.{led_first}
use Rattle.threads_leader.proofs.turn.Turn.new.Goals as goal

pub invariant_of-result : goal.invariant_of-result
invariant_of-result g c = led_first g.D.Device.past_of g.D.Device.failures g.B.Group.site.opened g.C.Course.begun c.args.part c.take_up.new.part
    c.requires c.take_up.ensures.up c.take_up.ensures.copying
