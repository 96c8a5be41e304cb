use Rattle.std.proofs.Common.{rules}
use Rattle.records.proofs.change.Rows.has_old.Goals as goal

pub returns-in-Inserted : goal.returns-in-Inserted
returns-in-Inserted c = search rules
