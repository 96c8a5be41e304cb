use Rattle.std.proofs.Common.{arith}
use Rattle.records.proofs.Sizes.{sizes}
use Rattle.records.proofs.record.Record.size.Goals as goal

pub returns-clause-size : goal.returns-clause-size
returns-clause-size c = grind (arith, sizes)
