use Rattle.std.proofs.Common.{rules}
use Rattle.marked_index.proofs.index.MarkedIndex.can_pledge.Goals as goal

pub returns : goal.returns
returns g c = search rules
