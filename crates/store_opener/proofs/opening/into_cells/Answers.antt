use Rattle.std.proofs.Common.{rules}
use Rattle.store_opener.proofs.opening.into_cells.Goals as goal

pub returns : goal.returns
returns g c = search rules
