use Rattle.std.proofs.Common.{rules}
use Rattle.txn_table.proofs.table.TxnTable.progress.Goals as goal

pub returns-in-Some : goal.returns-in-Some
returns-in-Some g c = search rules
