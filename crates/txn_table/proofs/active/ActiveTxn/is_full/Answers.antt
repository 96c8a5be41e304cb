use Rattle.std.proofs.Common.{rules}
use Rattle.txn_table.proofs.active.ActiveTxn.is_full.Goals as goal

pub returns : goal.returns
returns g c = search rules
