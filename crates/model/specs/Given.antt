-- What a store gives: what an engine begins with, and what a restart finds.
use Rattle.std.specs.Prelude.{◌≡◌, ◌≤◌, ◌+◌, Bool, List, [], ◌∷◌, Some, length, ℕ}
use Rattle.std.specs.FinMap as map
use Rattle.records.specs.ChangeValue.{ChangeValue}
use Rattle.records.specs.RecordValue.{RecordValue}
use Rattle.record_values.specs.declared.pair.Mark.TheVariants.{Live, Marked}
use Rattle.record_values.specs.declared.pair.Pair.{Pair}
use Rattle.model.specs.Cells.{Cells, cells_after}
use Rattle.model.specs.History.{Item, life_after, table_after, up_to}
use Rattle.model.specs.Pairs.{is_indexed, new_pair, old_pair, with_entry}
use Rattle.model.specs.Recovery.{recovered_rows}
use Rattle.model.specs.Table.{IsPairOf, Table}
use Rattle.record_values.specs.Entries.{Index}
use Rattle.model.specs.declared.life.Life.{Life}
use Rattle.model.specs.declared.life.Life.TheVariants.{Absent}

-- rows, entries, the index's life with the pair that was checkpointed last, and the number of the last record
pub record Given : Type 0 where
  pub table : Table
  pub entries : Index
  pub life : Life
  pub last : ℕ

-- no row, no entry, no index and no record
abbrev pub nothing : Given
nothing = record { table = map.empty; entries = map.empty; life = Absent; last = 0 }

-- ---- the entries with changes taken back

-- of one change: the pair that it put is marked, and then the one that it marked is put
abbrev pub entries_without : Bool → Index → ChangeValue → Index
entries_without indexed entries c = with_entry (with_entry entries (new_pair indexed c) Marked)
    (old_pair indexed c) Live

-- the last of these changes first
abbrev pub entries_reverted : Bool → Index → List ChangeValue → Index
entries_reverted indexed entries [] = entries
entries_reverted indexed entries (c ∷ changes) = entries_without indexed (entries_reverted indexed entries changes) c

-- one transaction after the other
abbrev pub all_entries_reverted : Bool → Index → List (ℕ × List ChangeValue) → Index
all_entries_reverted indexed entries [] = entries
all_entries_reverted indexed entries (txn ∷ txns) =
    all_entries_reverted indexed (entries_reverted indexed entries txn.1) txns

-- the entries with every unfinished transaction taken back, in the order of their numbers
abbrev pub recovered_entries : Cells → Index
recovered_entries cells = all_entries_reverted (is_indexed cells.life) cells.entries (map.entries cells.pending)

-- what is recovered of these cells, which records up to this number left
abbrev pub recovered : Cells → ℕ → Given
recovered cells last = record {
  table = recovered_rows cells;
  entries = recovered_entries cells;
  life = cells.life;
  last = last;
}

-- the cells of what was given, with no transaction
abbrev pub opening_cells : Given → Cells
opening_cells given = record { rows = given.table; entries = given.entries; pending = map.empty; life = given.life }

-- what is given after these records over an opening
abbrev pub given_after : Given → List RecordValue → Given
given_after opening records = recovered (cells_after (opening_cells opening) records) (opening.last + length records)

-- What is given is a prefix of a history, up to the last record: one that has every item up to the floor. Each live
-- entry names a row with its key.
pub record IsBeginning (opening : Given) (items : List Item) (floor : ℕ) (given : Given) : Type 0 where
  pub has_floor : floor ≤ given.last
  pub table : given.table ≡ table_after opening.table (up_to given.last items)
  pub life : given.life ≡ life_after opening.life (up_to given.last items)
  pub shown : (p : Pair) → map.get given.entries p ≡ Some Live → IsPairOf given.table p
