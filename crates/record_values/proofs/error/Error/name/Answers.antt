use Rattle.std.proofs.Common.{rules}
use Rattle.record_values.proofs.error.Error.name.Goals as goal

pub returns-in-NoSuchRow : goal.returns-in-NoSuchRow
returns-in-NoSuchRow c = search rules
