-- A restart as the machine undoes: the newest change first, each with all steps of its undo.
use Rattle.std.specs.FinMap.{entries}
use Rattle.std.specs.Ordering.{nat_cmp}
use Rattle.std.specs.Prelude.{Bool, List, None, Option, Some, [], ℕ, ◌∷◌, ◌≡◌}
use Rattle.record_values.specs.Maps.{set_at}
use Rattle.records.specs.Spelling.{old_row}
use Rattle.record_values.specs.declared.pair.Mark.TheVariants.{Live, Marked}
use Rattle.model.specs.Table.{Table}
use Rattle.record_values.specs.Entries.{Index}
use Rattle.core_model.specs.Changes.{Changes, Unchanged, new_pair, old_pair, ◌▹◌}
use Rattle.core_model.specs.Histories.{Opened}
use Rattle.core_model.specs.States.{Active, State}
use Rattle.core_model.specs.Steps.{is_indexed, left, update, with_entry}

-- the newest change first
abbrev pub rows_undone : Changes → Table → Table
rows_undone Unchanged rows = rows
rows_undone (older ▹ c) rows = rows_undone older (set_at rows c.rid (old_row c.rows))

abbrev pub entries_undone : Bool → Changes → Index → Index
entries_undone indexed Unchanged entries = entries
entries_undone indexed (older ▹ c) entries = entries_undone indexed older
    (with_entry (with_entry entries (new_pair indexed c) Marked) (old_pair indexed c) Live)

-- the transactions that are left, each with its changes
abbrev pub rows_back : List (ℕ × Changes) → Table → Table
rows_back [] rows = rows
rows_back (l ∷ ls) rows = rows_back ls (rows_undone l.1 rows)

abbrev pub entries_back : Bool → List (ℕ × Changes) → Index → Index
entries_back indexed [] entries = entries
entries_back indexed (l ∷ ls) entries = entries_back indexed ls (entries_undone indexed l.1 entries)

-- these are the active transactions, without some that have no change
abbrev pub IsListing : (ℕ → Option Active) → List (ℕ × Changes) → Type 0
IsListing txns [] = (t : ℕ) (x : Active) → txns t ≡ Some x → x.changes ≡ Unchanged
IsListing txns (l ∷ ls) = ((x : Active) × (txns l.0 ≡ Some x) × (x.changes ≡ l.1)) × IsListing (update nat_cmp txns l.0 None) ls

-- what a restart gives, where these transactions are left and the last record has this number
abbrev pub restarted : State → List (ℕ × Changes) → ℕ → Opened
restarted s left last = record {
  given = record { table = rows_back left s.rows; entries = entries_back (is_indexed s.life) left s.entries; life = s.life; last = last };
  pages = s.pages;
  places = s.places;
}
