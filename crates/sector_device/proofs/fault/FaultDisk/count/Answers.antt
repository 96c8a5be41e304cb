use Rattle.std.proofs.Common.{rules}
use Rattle.sector_device.proofs.fault.FaultDisk.count.Goals as goal

pub returns-clause-due : goal.returns-clause-due
returns-clause-due g c = search rules

pub returns-clause-fails : goal.returns-clause-fails
returns-clause-fails g c = search rules
