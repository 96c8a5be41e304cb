use Rattle.core_copies.proofs.Owned.{one_cells}
use Rattle.core_copies.proofs.laws.one_copy.Goals as goal

pub returns : goal.returns
returns c = one_cells
