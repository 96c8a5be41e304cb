use Rattle.std.proofs.Common.{refl}
use Rattle.store_reader.proofs.laws.over_no_cells.Goals as goal

pub returns-clause-given : goal.returns-clause-given
returns-clause-given c records = refl

pub returns-clause-following : goal.returns-clause-following
returns-clause-following c pages records following = following
