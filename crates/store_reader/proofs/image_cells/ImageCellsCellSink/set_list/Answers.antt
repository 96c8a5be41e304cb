use Rattle.std.proofs.Common.{rules}
use Rattle.record_values.specs.Maps.{nat_exact}
use Rattle.store_reader.proofs.Filled.{filled, marked}
use Rattle.store_reader.proofs.image_cells.ImageCellsCellSink.set_list.Goals as goal

pub invariant_of-self-2 : goal.invariant_of-self-2
invariant_of-self-2 g c = marked (λ bare. filled nat_exact _ _ _ _ c.in_ok-set.ensures.ok bare.2)

pub returns : goal.returns
returns g c = search rules
