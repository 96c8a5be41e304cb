use Rattle.std.proofs.Common.{rules}
use Rattle.record_values.proofs.error.Error.number.Goals as goal

pub returns-in-TooManyChanges : goal.returns-in-TooManyChanges
returns-in-TooManyChanges c = search rules
