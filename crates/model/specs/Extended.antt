-- A map with more entries.
use Rattle.std.specs.Prelude.{List, [], ◌∷◌}
use Rattle.std.specs.declared.cmp.Ordering.{Ordering}
use Rattle.std.specs.FinMap.{FinMap, empty, insert}
use Rattle.record_values.specs.Values.{Place}
use Rattle.record_values.specs.declared.row.Row.{Row}
use Rattle.record_values.specs.declared.pair.Pair.{Pair}
use Rattle.record_values.specs.declared.pair.Mark.{Mark}
use Rattle.model.specs.Table.{Table}
use Rattle.record_values.specs.Entries.{Index}

-- the map with these entries set, one after another
abbrev pub extended : {K X : Type 0} {R : K → K → Ordering} → FinMap R X → List (K × X) → FinMap R X
extended m [] = m
extended m (e ∷ es) = extended (insert m e.0 e.1) es

-- the table of these rows
abbrev pub table_of : List (Place × Row) → Table
table_of rows = extended empty rows

-- the index of these entries
abbrev pub index_of : List (Pair × Mark) → Index
index_of entries = extended empty entries
