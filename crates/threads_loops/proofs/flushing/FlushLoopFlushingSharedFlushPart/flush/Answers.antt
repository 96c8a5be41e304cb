use Rattle.threads_loops.proofs.Running.{has_flushed}
use Rattle.threads_loops.proofs.flushing.FlushLoopFlushingSharedFlushPart.flush.Goals as goal

pub returns : goal.returns
returns g c =
    let is = c.flush_until-ended.ensures in
    record {
      leaves = has_flushed g.D.Device.past_of g.D.Device.failures g.B.Group.site.opened _ c.args.flush c.flush_until-ended.new.part
          c.flush_until-ended.result is.goes_on is.through is.stopped is.failed;
    }
