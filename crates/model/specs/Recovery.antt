-- What a restart makes of the rows that records left: every transaction that
-- neither committed nor ended is taken back.
use Rattle.std.specs.Prelude.{ℕ, List, [], ◌∷◌}
use Rattle.std.specs.FinMap as map
use Rattle.records.specs.ChangeValue.{ChangeValue}
use Rattle.model.specs.Table.{Table}
use Rattle.model.specs.Cells.{Cells, reverted}

-- the rows with the changes of these transactions taken back, one transaction after the other
abbrev pub all_reverted : Table → List (ℕ × List ChangeValue) → Table
all_reverted rows [] = rows
all_reverted rows (txn ∷ txns) = all_reverted (reverted rows txn.1) txns

-- the rows with every unfinished transaction taken back, in the order of their numbers
abbrev pub recovered_rows : Cells → Table
recovered_rows cells = all_reverted cells.rows (map.entries cells.pending)
