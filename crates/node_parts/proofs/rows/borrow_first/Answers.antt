use Rattle.std.proofs.lemmas.Grind.{common_steps}
use Rattle.std.proofs.Common.{arith}
use Rattle.node_parts.proofs.rows.borrow_first.Goals as goal

pub returns-clause-joined : goal.returns-clause-joined
returns-clause-joined g c = grind (arith, common_steps)
