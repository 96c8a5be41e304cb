use Rattle.store_image_half.proofs.Told.{stays}
use Rattle.store_image_half.proofs.laws.told_by_its_sectors.Goals as goal

pub returns : goal.returns
returns c = stays
