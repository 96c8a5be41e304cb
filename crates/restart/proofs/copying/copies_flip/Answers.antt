use Rattle.restart.proofs.Flips.{flips}
use Rattle.restart.proofs.copying.copies_flip.Goals as goal

pub returns : goal.returns
returns g c replies old new lawful none enough = flips g.D.Device.failures replies old new lawful none enough
