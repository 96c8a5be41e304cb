use Rattle.std.proofs.Common.{refl}
use Rattle.sector_device.specs.Values.{zero_sector}
use Rattle.sector_device.proofs.values.zero_sector.Goals as goal

pub returns : goal.returns
unfolding zero_sector
returns c = refl
