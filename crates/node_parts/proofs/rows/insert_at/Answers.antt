use Rattle.std.proofs.Common.{rules}
use Rattle.node_parts.proofs.rows.insert_at.Goals as goal

pub returns-clause-items : goal.returns-clause-items
returns-clause-items g c = search rules
