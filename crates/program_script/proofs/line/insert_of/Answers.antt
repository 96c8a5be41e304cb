use Rattle.std.proofs.Common.{rules}
use Rattle.program_script.specs.Reading.{insert_at}
use Rattle.program_script.proofs.line.insert_of.Goals as goal

pub returns : goal.returns
unfolding insert_at
returns c = search rules
