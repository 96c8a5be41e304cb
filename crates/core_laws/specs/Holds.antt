-- What a core holds after any calls, beside the history that the calls and their replies tell.
use Rattle.std.specs.FinMap.{get, len}
use Rattle.std.specs.FinMap as map
use Rattle.std.specs.Prelude.{List, None, Some, [], ℕ, ◌+◌, ◌∷◌, ◌≡◌, ◌≤◌, ◌↔◌}
use Rattle.records.specs.ChangeValue.{ChangeValue}
use Rattle.record_values.specs.Values.{Place}
use Rattle.record_values.specs.declared.pair.Mark.TheVariants.{Live}
use Rattle.record_values.specs.declared.pair.Pair.{Pair}
use Rattle.record_values.specs.declared.row.Row.{Row}
use Rattle.model.specs.Cells.{Cells, Pending, with_list}
use Rattle.model.specs.History.{Item, life_after, table_after}
use Rattle.model.specs.Recovery.{recovered_rows}
use Rattle.model.specs.Table.{IsPairOf, Table}
use Rattle.model.specs.declared.life.Life.TheVariants.{Absent}
use Rattle.txn_table.specs.Table.{TxnState, last_change}
use Rattle.txn_table.specs.declared.progress.Progress.{Progress}
use Rattle.txn_table.specs.declared.progress.Progress.TheVariants.{OwesEntry, OwesRow, Ready, Rolling, UndoesEntry}
use Rattle.txn_table.specs.declared.progress.Progress.TheVariants.{UndoesRow}
use Rattle.core_model.specs.Changes.{pair_of}
use Rattle.core_model.specs.Histories.{IsCovered, Opened}
use Rattle.core_parts.specs.View.{CoreValue}
use Rattle.core_parts.specs.Moves.{txn_shown}

-- the changes of each active transaction, under its number
abbrev pub lists_of : List (ℕ × TxnState) → Pending
lists_of [] = map.empty
lists_of (txn ∷ txns) = with_list (lists_of txns) txn.0 (Some txn.1.changes)

-- its rows, its entries, the changes of its active transactions, and the index's life
abbrev pub cells_shown : CoreValue → Cells
cells_shown v = record {
  rows = v.heap.rows;
  entries = v.index.entries;
  pending = lists_of v.txns.active;
  life = v.life;
}

-- the rows with the changes of every active transaction taken back, the last change first
abbrev pub committed_rows : CoreValue → Table
committed_rows v = recovered_rows (cells_shown v)

-- some steps of a change, or of its undo, are made, and others are owed
abbrev pub IsHalfway : Progress → Type 0
IsHalfway Ready = ⊥
IsHalfway OwesRow = Unit {0}
IsHalfway OwesEntry = Unit {0}
IsHalfway Rolling = ⊥
IsHalfway UndoesRow = Unit {0}
IsHalfway UndoesEntry = Unit {0}

-- a row whose newest change, of an active transaction, is halfway
pub record IsBeingChanged (v : CoreValue) (r : Place) : Type 0 where
  pub number : ℕ
  pub txn : TxnState
  pub active : txn_shown v number ≡ Some txn
  pub change : ChangeValue
  pub newest : last_change txn ≡ Some change
  pub of_row : change.rid ≡ r
  pub halfway : IsHalfway txn.progress

-- the entry of the pair is there, and not marked
abbrev pub IsVisible : CoreValue → Pair → Type 0
IsVisible v p = get v.index.entries p ≡ Some Live

-- What the core holds is what this history tells. The committed rows are its table, and the index's life is its life.
-- Each visible entry names a row with its key; as far as the index is built, the pair of each row is visible that is
-- not just being changed; and without an index there is no entry. The entries, with the reserved places, have room.
pub record HoldsHistory (o : Opened) (items : List Item) (v : CoreValue) : Type 0 where
  pub table : committed_rows v ≡ table_after o.given.table items
  pub life : v.life ≡ life_after o.given.life items
  pub sound : (p : Pair) → IsVisible v p → IsPairOf v.heap.rows p
  pub complete : (r : Place) (row : Row) → get v.heap.rows r ≡ Some row → (IsBeingChanged v r → ⊥)
      → IsCovered v.life v.scan.last (pair_of r row) → IsVisible v (pair_of r row)
  pub empty : v.life ≡ Absent → (p : Pair) → get v.index.entries p ≡ None
  pub room : len v.index.entries + v.index.pledged ≤ v.index.capacity

-- the visible entries are just the pairs of the rows
abbrev pub ShowsRows : CoreValue → Type 0
ShowsRows v = (p : Pair) → IsVisible v p ↔ IsPairOf v.heap.rows p
