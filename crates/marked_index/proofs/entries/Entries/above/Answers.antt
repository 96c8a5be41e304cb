use Rattle.std.proofs.Common.{rules}
use Rattle.marked_index.proofs.entries.Entries.above.Goals as goal

pub returns : goal.returns
returns g c = search rules
