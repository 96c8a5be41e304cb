use Rattle.program_script.specs.Grammar.{words}
use Rattle.program_script.proofs.Commands as commands
use Rattle.program_script.proofs.laws.one_command.Goals as goal

pub returns : goal.returns
returns c line a b = commands.one_command (words line) a b
