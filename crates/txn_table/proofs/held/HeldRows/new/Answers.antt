use Rattle.txn_table.proofs.HeldRows.{bound_none}
use Rattle.txn_table.proofs.held.HeldRows.new.Goals as goal

pub invariant_of-result : goal.invariant_of-result
invariant_of-result g c = bound_none _ c.new.ensures.items
