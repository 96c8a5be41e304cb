use Rattle.std.proofs.Common.{rules}
use Rattle.txn_table.proofs.active.ActiveTxn.pop.Goals as goal

pub returns-clause-rest : goal.returns-clause-rest
returns-clause-rest g c = search rules
