use Rattle.std.proofs.Common.{rules}
use Rattle.nsf_c.proofs.told.status_of.Goals as goal

pub returns-in-Refused : goal.returns-in-Refused
returns-in-Refused c = search rules
