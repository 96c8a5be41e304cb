use Rattle.std.proofs.Common.{rules}
use Rattle.program_script.specs.ReadingShell.{delete_key_at}
use Rattle.program_script.proofs.shell_line.delete_key_of.Goals as goal

pub returns : goal.returns
unfolding delete_key_at
returns c = search rules
