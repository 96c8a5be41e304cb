-- The rows of a page, seen as a table.
use Rattle.std.specs.Prelude.{ℕ, ◌+◌, List, [], ◌∷◌, Option}
use Rattle.std.specs.FinMap as map
use Rattle.record_values.specs.Maps.{set_at}
use Rattle.record_values.specs.declared.row.Row.{Row}
use Rattle.model.specs.Table.{Table}

-- the table of the rows in these slots of a page, the first of which is slot i
abbrev pub rows_from : ℕ → ℕ → List (Option Row) → Table
rows_from page i [] = map.empty
rows_from page i (row ∷ slots) = set_at (rows_from page (i + 1) slots) (record { page = page; slot = i }) row
