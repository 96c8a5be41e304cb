use Rattle.std.proofs.Common.{rules}
use Rattle.program_commands.proofs.guarded.GuardedStore.is_too_late.Goals as goal

pub returns-in-Commit : goal.returns-in-Commit
returns-in-Commit g c = search rules
