use Rattle.std.proofs.Common.{◌≡◌, drop}
use Rattle.txn_table.specs.Table.{state_of}
use Rattle.txn_table.proofs.table.TxnTable.state.Given as goal

abbrev pub invariant-loop-i : goal.invariant-loop-i
invariant-loop-i g l = state_of l.txn (drop l.i l.self.active) ≡ state_of l.txn l.self.active
