use Rattle.std.proofs.Common.{drop, ◌≡◌}
use Rattle.std.specs.FinMap.{get}
use Rattle.model.specs.Cells.{reverted}
use Rattle.model.specs.Table.{Table}
use Rattle.core_committed.proofs.rows.taken_back.Given as goal

abbrev pub invariant-loop-change : goal.invariant-loop-change
invariant-loop-change l = (rows : Table) → get (reverted rows (drop l.change-index l.changes)) l.rid ≡ get (reverted rows l.changes) l.rid
