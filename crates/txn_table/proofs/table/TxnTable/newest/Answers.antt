use Rattle.std.proofs.Common.{rules}
use Rattle.txn_table.proofs.table.TxnTable.newest.Goals as goal

pub returns : goal.returns
returns g c = search rules
