use Rattle.std.proofs.Common.{rules}
use Rattle.core_steps.proofs.step.sets_old.Goals as goal

pub returns : goal.returns
returns c = search rules
