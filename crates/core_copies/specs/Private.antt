-- Words for the private steps of copying. No public clause cites them.
use Rattle.std.specs.Prelude.{◌≡◌, ◌≢◌, ℕ, List, Option, Some, None}
use Rattle.std.specs.FinMap as map
use Rattle.records.specs.ChangeValue.{ChangeValue}
use Rattle.record_values.specs.Values.{Place}
use Rattle.model.specs.Cells.{Cells, Pending, with_list}
use Rattle.model.specs.Table.{Table}
use Rattle.core_parts.specs.View.{CoreValue}

-- the cells of the core without its lists
abbrev pub unlisted : CoreValue → Cells
unlisted v = record { rows = v.heap.rows; entries = v.index.entries; pending = map.empty; life = v.life }

-- the rows of this page of all of them are put to others
pub record HasPagePut (all : Table) (page : ℕ) (old new : Table) : Type 0 where
  pub here : (q : Place) → q.page ≡ page → map.get new q ≡ map.get all q
  pub others : (q : Place) → q.page ≢ page → map.get new q ≡ map.get old q

-- this list, if there is one, is put to others as that of a transaction
abbrev pub HasListPut : Option (List ChangeValue) → ℕ → Pending → Pending → Type 0
HasListPut None txn old new = new ≡ old
HasListPut (Some list) txn old new = new ≡ with_list old txn (Some list)
