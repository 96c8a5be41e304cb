use Rattle.std.proofs.Common.{rules}
use Rattle.txn_table.proofs.table.TxnTable.len.Goals as goal

pub returns-clause-number : goal.returns-clause-number
returns-clause-number g c = search rules
