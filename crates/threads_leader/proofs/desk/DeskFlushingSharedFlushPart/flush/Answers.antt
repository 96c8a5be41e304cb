use Rattle.threads_leader.proofs.Leading.{flushed_led}
use Rattle.threads_leader.proofs.desk.DeskFlushingSharedFlushPart.flush.Goals as goal

pub returns : goal.returns
returns g c = record {
  leaves = flushed_led g.D.Device.past_of g.D.Device.failures g.B.Group.site.opened g.C.Course.begun c.args.flush c.clear-flush.result
      c.stands.ensures c.requires.takes c.clear-flush.ensures c.ended_as-ended.result c.ended_as-ended.ensures.sound c.ended_as-ended.ensures.failed;
}
