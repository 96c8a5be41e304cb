use Rattle.std.proofs.Common.{arith}
use Rattle.std.proofs.lemmas.Grind.{common_steps}
use Rattle.records.specs.Reading.{row_at}
use Rattle.records.proofs.decode.row_of.Goals as goal

pub returns-in-Some : goal.returns-in-Some
unfolding row_at
returns-in-Some c = grind (arith, common_steps)
