use Rattle.threads_leader.proofs.Leading.{led_look, led_round}
use Rattle.threads_leader.proofs.turn.Turn.lead.Goals as goal

pub invariant_of-self : goal.invariant_of-self
invariant_of-self g c = led_look g.D.Device.past_of g.D.Device.failures g.B.Group.site.opened g.C.Course.begun _ c.stopped.new.self c.self.invariant
    c.stopped.ensures.looks

pub flush_round-requires : goal.flush_round-requires
flush_round-requires g c =
    let led = led_look g.D.Device.past_of g.D.Device.failures g.B.Group.site.opened g.C.Course.begun _ c.stopped.new.self c.self.invariant
    c.stopped.ensures.looks in
    record { copying = led.copying }

pub invariant_of-self-2 : goal.invariant_of-self-2
invariant_of-self-2 g c =
    let led = led_look g.D.Device.past_of g.D.Device.failures g.B.Group.site.opened g.C.Course.begun _ c.stopped.new.self c.self.invariant
    c.stopped.ensures.looks in
    led_round g.D.Device.past_of g.D.Device.failures g.B.Group.site.opened g.C.Course.begun _ c.flush_round.new.part led
    c.flush_round.ensures.through c.flush_round.ensures.copying
