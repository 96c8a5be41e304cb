use Rattle.std.proofs.Common.{rules}
use Rattle.txn_table.proofs.table.TxnTable.may_begin.Goals as goal

pub returns-clause-room : goal.returns-clause-room
returns-clause-room g c = search rules
