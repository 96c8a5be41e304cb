-- The cells of a core, as the log of its records has them.
use Rattle.std.specs.FinMap.{get}
use Rattle.std.specs.Prelude.{◌≡◌, ℕ, List, Option, Some, None, if◌then◌else◌}
use Rattle.records.specs.ChangeValue.{ChangeValue}
use Rattle.record_values.specs.GeometryValue.{GeometryValue}
use Rattle.model.specs.Cells.{Cells}
use Rattle.txn_table.specs.Table.{TxnState, has_any, state_of}
use Rattle.core_parts.specs.View.{CoreValue}
use Rattle.store_reader.specs.Source.{FitsImage}

-- The list that the log has of a transaction: its changes. One that holds no row has made no record, and has no list.
abbrev pub list_shown : Option TxnState → Option (List ChangeValue)
list_shown None = None
list_shown (Some x) = if has_any x.rows then Some x.changes else None

-- these are the cells of the core, as the log of its records has them
pub record IsCellsOf (v : CoreValue) (cells : Cells) : Type 0 where
  pub rows : cells.rows ≡ v.heap.rows
  pub entries : cells.entries ≡ v.index.entries
  pub pending : (t : ℕ) → get cells.pending t ≡ list_shown (state_of t v.txns.active)
  pub life : cells.life ≡ v.life

-- the core has the pages of a store of this geometry, and its room for entries
pub record IsOfGeometry (v : CoreValue) (g : GeometryValue) : Type 0 where
  pub pages : v.heap.pages ≡ g.pages
  pub entries : v.index.capacity ≡ g.entries

-- an image of the core's store has room for these cells
abbrev pub FitsStoreOf : CoreValue → Cells → Type 0
FitsStoreOf v cells = (g : GeometryValue) → IsOfGeometry v g → FitsImage g cells
