use Rattle.sector_device.specs.MemDisk.{past_of}
use Rattle.headline.proofs.Torn.{stopped_now}
use Rattle.headline.proofs.mortal.MemDiskMortal.stop.Goals as goal

pub returns-clause-stopped : goal.returns-clause-stopped
returns-clause-stopped g c = λ moment any le. stopped_now moment (past_of c.args.self.now) (past_of c.stop_now.new.self) le c.stop_now.ensures.found
