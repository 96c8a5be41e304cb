use Rattle.std.proofs.Common.{rules}
use Rattle.records.proofs.change.Rows.has_new.Goals as goal

pub returns-in-Deleted : goal.returns-in-Deleted
returns-in-Deleted c = search rules
