use Rattle.record_values.specs.Maps.{nat_exact}
use Rattle.store_image_half.proofs.Maps.{next_above}
use Rattle.store_image_half.proofs.source.CellMapsCellSource.list_behind.Goals as goal

pub returns : goal.returns
returns g c = next_above nat_exact.total c.args.self.now.lists c.args.txn _ c.above.ensures
