use Rattle.std.proofs.Common.{rules}
use Rattle.online_index.proofs.index.OnlineIndex.count.Goals as goal

pub returns-in-Complete-clause-count : goal.returns-in-Complete-clause-count
returns-in-Complete-clause-count g c = search rules
