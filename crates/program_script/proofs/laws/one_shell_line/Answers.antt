use Rattle.program_script.proofs.ShellLines.{same_shell_line}
use Rattle.program_script.proofs.laws.one_shell_line.Goals as goal

pub returns : goal.returns
returns c = same_shell_line
