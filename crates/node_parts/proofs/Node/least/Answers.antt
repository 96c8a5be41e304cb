use Rattle.std.proofs.Common.{rules}
use Rattle.node_parts.proofs.Node.least.Goals as goal

pub returns-in-Leaf : goal.returns-in-Leaf
returns-in-Leaf g c = search rules
