use Rattle.std.proofs.Common.{ap}
use Rattle.store_writer.proofs.store.StoreWriter.synced.Goals as goal

pub returns : goal.returns
returns g c = ap (λ w. w.synced) c.self.view_is
