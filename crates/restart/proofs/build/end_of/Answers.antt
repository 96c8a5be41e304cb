use Rattle.std.proofs.Common.{rules}
use Rattle.restart.proofs.build.end_of.Goals as goal

pub returns-in-Rejected : goal.returns-in-Rejected
returns-in-Rejected c = search rules
