-- The entries that a change moves.
use Rattle.std.specs.Prelude.{Bool, false, not, nat_eq, Option, Some, None, ◌&&◌, if◌then◌else◌}
use Rattle.std.specs.Cmp.Lexicographic.{pointwise}
use Rattle.records.specs.ChangeValue.{ChangeValue}
use Rattle.records.specs.declared.change.Rows.{Rows}
use Rattle.records.specs.declared.change.Rows.TheVariants.{Inserted, Deleted, Updated}
use Rattle.record_values.specs.declared.row.Row.{Row}
use Rattle.record_values.specs.declared.pair.Pair.{Pair}

-- whether the rows before and after a change have one key
abbrev pub keeps_key : Rows → Bool
keeps_key (Inserted new) = false
keeps_key (Deleted old) = false
keeps_key (Updated old new) = pointwise nat_eq old.key new.key

-- the pair of this row of a change, where the change moves its entry: there is an index, and the key does not stay
abbrev pub moved_pair : Bool → ChangeValue → Option Row → Option Pair
moved_pair indexed c None = None
moved_pair indexed c (Some row) = if indexed && not (keeps_key c.rows) then Some
    (record { key = row.key; rid = c.rid }) else None
