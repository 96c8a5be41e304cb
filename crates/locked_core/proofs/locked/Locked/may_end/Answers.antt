use Rattle.std.proofs.Common.{rules}
use Rattle.locked_core.proofs.locked.Locked.may_end.Goals as goal

pub returns : goal.returns
returns g c = search rules
