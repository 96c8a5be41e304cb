use Rattle.std.proofs.Common.{take}
use Rattle.txn_table.specs.Held.{IsBoundOf}
use Rattle.txn_table.proofs.held.bound_of.Given as goal

abbrev pub invariant-loop-rid : goal.invariant-loop-rid
invariant-loop-rid l = IsBoundOf (take l.rid-index l.rows) l.bound
