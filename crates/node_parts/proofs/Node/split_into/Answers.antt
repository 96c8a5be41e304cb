use Rattle.std.proofs.Common.{rules}
use Rattle.node_parts.proofs.Node.split_into.Goals as goal

pub returns-clause-joined : goal.returns-clause-joined
returns-clause-joined g c = search rules
