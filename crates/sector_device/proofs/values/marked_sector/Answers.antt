use Rattle.std.proofs.Common.{refl}
use Rattle.sector_device.specs.Values.{marked_sector}
use Rattle.sector_device.proofs.values.marked_sector.Goals as goal

pub returns : goal.returns
unfolding marked_sector
returns c = refl
