use Rattle.store_writer.proofs.Opening.{longer_writer}
use Rattle.store_writer.proofs.store.StoreWriter.goes_on.Goals as goal

pub returns : goal.returns
returns g c = λ run handed more is run_is. longer_writer run more g.D.Device.past_of handed c.args.self.now is run_is
