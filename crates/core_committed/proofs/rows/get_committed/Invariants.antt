use Rattle.std.proofs.Common.{◌≡◌}
use Rattle.std.specs.FinMap.{get}
use Rattle.nsf_core.specs.Value.{value_of}
use Rattle.core_committed.proofs.Reverted.{back_to}
use Rattle.core_committed.proofs.rows.get_committed.Given as goal

abbrev pub invariant-loop-index : goal.invariant-loop-index
invariant-loop-index g l = get (back_to (value_of l.core).heap.rows (value_of l.core).txns.active l.index) l.rid ≡ l.row
