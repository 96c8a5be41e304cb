use Rattle.std.proofs.Common.{rules}
use Rattle.record_values.proofs.number.RecordNumber.get.Goals as goal

pub returns-clause-value : goal.returns-clause-value
returns-clause-value c = search rules

pub returns-clause-first : goal.returns-clause-first
returns-clause-first c = search rules
