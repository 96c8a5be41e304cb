use Rattle.std.proofs.Common.{rules}
use Rattle.marked_index.proofs.index.MarkedIndex.txn_mark.Goals as goal

pub returns-clause-ok : goal.returns-clause-ok
returns-clause-ok g c = search rules
