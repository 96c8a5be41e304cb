use Rattle.std.proofs.Common.{refl}
use Rattle.store_salvage.specs.Copied.{unread_sector}
use Rattle.store_salvage.proofs.copying.unread_sector.Goals as goal

pub returns : goal.returns
unfolding unread_sector
returns c = refl
