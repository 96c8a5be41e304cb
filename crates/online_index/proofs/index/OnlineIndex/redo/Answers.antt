use Rattle.std.proofs.Common.{rules}
use Rattle.online_index.proofs.index.OnlineIndex.redo.Goals as goal

pub returns-in-EntryIs-clause-ok : goal.returns-in-EntryIs-clause-ok
returns-in-EntryIs-clause-ok g c = search rules
