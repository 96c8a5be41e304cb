use Rattle.std.proofs.Common.{refl}
use Rattle.store_writer.proofs.store.StoreWriter.into_device.Goals as goal

pub returns : goal.returns
returns g c = rw (← c.self.view_is) (record { device = refl; images = λ run handed is image crash. is.images image crash })
