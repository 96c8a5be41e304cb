use Rattle.std.proofs.Common.{rules}
use Rattle.node_parts.specs.Order.{order}
use Rattle.node_parts.proofs.search.precedes.Goals as goal

pub returns : goal.returns
unfolding order
returns c = search rules
