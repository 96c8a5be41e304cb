use Rattle.std.proofs.Common.{rules}
use Rattle.records.proofs.record.Part.is_in.Goals as goal

pub returns-in-OldEntry : goal.returns-in-OldEntry
returns-in-OldEntry c = search rules
