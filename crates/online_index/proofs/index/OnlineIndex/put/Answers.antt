use Rattle.std.proofs.Common.{rules}
use Rattle.online_index.proofs.index.OnlineIndex.put.Goals as goal

pub returns-clause-stands : goal.returns-clause-stands
returns-clause-stands g c = search rules

pub returns-clause-ok : goal.returns-clause-ok
returns-clause-ok g c = search rules
