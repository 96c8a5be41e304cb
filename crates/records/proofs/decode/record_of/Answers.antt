use Rattle.std.proofs.Common.{arith}
use Rattle.std.proofs.lemmas.Grind.{common_steps}
use Rattle.records.specs.Reading.{record_at}
use Rattle.records.proofs.decode.record_of.Goals as goal

pub returns : goal.returns
unfolding record_at
returns c = grind (arith, common_steps)
