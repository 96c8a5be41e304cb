use Rattle.std.proofs.Common.{rules}
use Rattle.record_values.proofs.txn.Txn.new.Goals as goal

pub returns-else-number-eq0-clause-value : goal.returns-else-number-eq0-clause-value
returns-else-number-eq0-clause-value c = search rules
