use Rattle.std.proofs.Common.{rules}
use Rattle.model.proofs.entry_map.EntryMap.take_back.Goals as goal

pub returns : goal.returns
returns g c = search rules
