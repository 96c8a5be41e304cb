use Rattle.std.proofs.Common.{rules}
use Rattle.record_values.proofs.txn.Txn.number.Goals as goal

pub returns-clause-value : goal.returns-clause-value
returns-clause-value c = search rules

pub returns-clause-begun : goal.returns-clause-begun
returns-clause-begun c = search rules
