use Rattle.std.proofs.Common.{rules}
use Rattle.store_reader.proofs.image_cells.ImageCellsCellSink.set_life.Goals as goal

pub returns : goal.returns
returns g c = search rules
