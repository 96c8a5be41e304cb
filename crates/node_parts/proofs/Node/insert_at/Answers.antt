use Rattle.std.proofs.Common.{rules}
use Rattle.node_parts.proofs.Node.insert_at.Goals as goal

pub returns : goal.returns
returns g c = search rules
