use Rattle.std.proofs.Common.{rules}
use Rattle.txn_table.proofs.table.TxnTable.new.Goals as goal

pub returns : goal.returns
returns g c = search rules
