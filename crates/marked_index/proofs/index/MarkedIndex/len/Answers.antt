use Rattle.std.proofs.Common.{rules}
use Rattle.marked_index.proofs.index.MarkedIndex.len.Goals as goal

pub returns-clause-len : goal.returns-clause-len
returns-clause-len g c = search rules
