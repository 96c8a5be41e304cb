use Rattle.std.proofs.Common.{rules}
use Rattle.store_reader.proofs.store_cells.StoreCells.over.Goals as goal

pub returns : goal.returns
returns g c = search rules
