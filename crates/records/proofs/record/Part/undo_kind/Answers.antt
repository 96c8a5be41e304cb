use Rattle.std.proofs.Common.{rules}
use Rattle.records.proofs.record.Part.undo_kind.Goals as goal

pub returns-in-NewEntry : goal.returns-in-NewEntry
returns-in-NewEntry c = search rules
