use Rattle.std.proofs.Common.{arith}
use Rattle.sector_device.specs.MemDisk.{past_of}
use Rattle.test_nsf.proofs.Stops.{found_torn}
use Rattle.test_nsf.proofs.recorded.RecordedDiskMortal.stop.Goals as goal

-- it stops at the moment that is asked for, which is none before the marked one
pub returns-clause-stopped : goal.returns-clause-stopped
returns-clause-stopped g c = λ moment is le. record {
  moment = c.min.result;
  from = omega (arith, is, le, c.min.ensures, c.saturating_add-wanted.ensures, c.moment-now.ensures);
  until = omega (arith, c.min.ensures, c.moment-now.ensures);
  found-as = found_torn ((past_of c.args.self.now.disk).disk_at c.min.result) (past_of c.crash_at.new.self) c.crash_at.ensures.crash
      c.crash_at.ensures.synced c.crash_at.ensures.moment;
}
