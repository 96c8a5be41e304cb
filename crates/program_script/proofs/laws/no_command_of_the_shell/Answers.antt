use Rattle.program_script.proofs.ShellLines.{no_command}
use Rattle.program_script.proofs.laws.no_command_of_the_shell.Goals as goal

pub returns : goal.returns
returns c = no_command
