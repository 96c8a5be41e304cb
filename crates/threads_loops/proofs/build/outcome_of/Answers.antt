use Rattle.std.proofs.Common.{rules}
use Rattle.threads_loops.proofs.build.outcome_of.Goals as goal

pub returns-in-Ok-Idle : goal.returns-in-Ok-Idle
returns-in-Ok-Idle c = search rules
