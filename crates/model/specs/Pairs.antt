-- The pairs of the index that a change of a row moves.
use Rattle.std.specs.Cmp.Lexicographic.{slice_cmp}
use Rattle.std.specs.Ordering.{eq_by_cmp, nat_cmp}
use Rattle.std.specs.Prelude.{Bool, None, Option, Some, cond, false, true}
use Rattle.records.specs.ChangeValue.{ChangeValue}
use Rattle.record_values.specs.Maps.{set_at}
use Rattle.records.specs.Spelling.{new_row, old_row}
use Rattle.record_values.specs.Values.{Place}
use Rattle.record_values.specs.declared.pair.Mark.{Mark}
use Rattle.record_values.specs.declared.pair.Pair.{Pair}
use Rattle.record_values.specs.declared.row.Row.{Row}
use Rattle.record_values.specs.Entries.{Index}
use Rattle.model.specs.declared.life.Life.{Life}
use Rattle.model.specs.declared.life.Life.TheVariants.{Absent, Building, Complete}

-- whether there is an index, complete or not
abbrev pub is_indexed : Life → Bool
is_indexed Absent = false
is_indexed (Building highest) = true
is_indexed Complete = true

-- the pair of a row at a place
abbrev pub pair_of : Place → Row → Pair
pair_of rid row = record { key = row.key; rid = rid }

-- the pair of the row at a place, where there is one
abbrev pub pair_at : Place → Option Row → Option Pair
pair_at rid None = None
pair_at rid (Some row) = Some (pair_of rid row)

-- whether two rows have one key
abbrev pub same_key : Row → Row → Bool
same_key a b = eq_by_cmp (slice_cmp nat_cmp) a.key b.key

-- the pair that goes as the row at this place is replaced: none without an index, without a row, or where the key stays
abbrev pub gone : Bool → Place → Option Row → Option Row → Option Pair
gone false rid row other = None
gone true rid None other = None
gone true rid (Some row) None = Some (pair_of rid row)
gone true rid (Some row) (Some other) = cond (same_key row other) None (Some (pair_of rid row))

-- the pair that a change marks, and the pair that it puts
abbrev pub old_pair : Bool → ChangeValue → Option Pair
old_pair indexed c = gone indexed c.rid (old_row c.rows) (new_row c.rows)

-- the pair that a change puts: that of the row after it, unless the key stays
abbrev pub new_pair : Bool → ChangeValue → Option Pair
new_pair indexed c = gone indexed c.rid (new_row c.rows) (old_row c.rows)

-- the entry of this pair, where there is one, gets this mark
abbrev pub with_entry : Index → Option Pair → Mark → Index
with_entry entries None mark = entries
with_entry entries (Some p) mark = set_at entries p (Some mark)
