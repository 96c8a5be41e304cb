use Rattle.std.proofs.Common.{arith}
use Rattle.std.proofs.lemmas.Grind.{common_steps}
use Rattle.core_copies.proofs.parts.put_list.Goals as goal

pub returns-then-not-holds-clause-put : goal.returns-then-not-holds-clause-put
returns-then-not-holds-clause-put g c = grind (arith, common_steps)
