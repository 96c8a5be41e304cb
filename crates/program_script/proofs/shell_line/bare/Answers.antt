use Rattle.program_script.proofs.ShellLines.{not_bare}
use Rattle.program_script.proofs.shell_line.bare.Goals as goal

pub returns-in-Some : goal.returns-in-Some
returns-in-Some c = rw c.in-Some.is (not_bare c.args.line 32 c.in-Some.field-0.now)
