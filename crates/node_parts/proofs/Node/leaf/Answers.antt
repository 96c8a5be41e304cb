use Rattle.std.proofs.Common.{rules}
use Rattle.node_parts.proofs.Node.leaf.Goals as goal

pub returns-clause-ok : goal.returns-clause-ok
returns-clause-ok g c = search rules
