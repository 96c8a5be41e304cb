use Rattle.block_file.specs.declared.header.TheConstants.{TEXT, VERSION}
use Rattle.block_file.proofs.Telling.{zero_behind}
use Rattle.block_file.proofs.header.numbers_of.Goals as goal

pub returns-clause-rest : goal.returns-clause-rest
returns-clause-rest c = λ i behind. zero_behind TEXT VERSION c.args.plan.sectors c.args.plan.lead c.args.plan.shape.area i behind
