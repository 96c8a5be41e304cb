use Rattle.std.proofs.Common.{arith}
use Rattle.std.proofs.lemmas.Grind.{common_steps}
use Rattle.model.proofs.list_map.with_change.Goals as goal

pub returns : goal.returns
returns g c = grind (arith, common_steps)
