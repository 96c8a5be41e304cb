use Rattle.std.proofs.Common.{sym, subst}
use Rattle.sector_device.specs.Disk.{IsSector}
use Rattle.sector_device.proofs.crash.sector_of.Goals as goal

pub returns-clause-whole : goal.returns-clause-whole
returns-clause-whole c = subst IsSector (sym c.copy_from_slice.ensures.after) (record { size = c.told-bytes; are_bytes = c.fits-bytes })
