use Rattle.sector_device.specs.MemDisk.{past_of}
use Rattle.test_nsf.proofs.Stops.{found_torn}
use Rattle.test_nsf.proofs.recorded.RecordedDiskMortal.stop_now.Goals as goal

pub returns-clause-found : goal.returns-clause-found
returns-clause-found g c =
    found_torn (past_of c.args.self.now.disk).disk (past_of c.crash.new.self) c.crash.ensures.crash c.crash.ensures.synced c.crash.ensures.moment
