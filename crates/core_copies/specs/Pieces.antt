-- The pieces of an image that are copied from a core.
use Rattle.std.specs.Prelude.{◌≡◌, ℕ, ◌-◌, ◌<◌, ◌≤◌, List, length, Option, Some, None, slice_get}
use Rattle.std.specs.FinMap as map
use Rattle.record_values.specs.Values.{Place}
use Rattle.record_values.specs.declared.rid.TheConstants.{SLOTS_PER_PAGE}
use Rattle.record_values.specs.declared.row.Row.{Row}
use Rattle.record_values.specs.declared.pair.Pair.{Pair}
use Rattle.record_values.specs.declared.pair.Mark.{Mark}
use Rattle.model.specs.declared.life.Life.{Life}
use Rattle.model.specs.Table.{Table}
use Rattle.record_values.specs.Entries.{Index}
use Rattle.model.specs.Cells.{Cells, Pending}
use Rattle.model.specs.Inside.{AreInside}
use Rattle.model.specs.Redo.{cells_of}
use Rattle.store_image_model.specs.Partly.{ArePageRows, AreLastEntries, AreNextEntries}
use Rattle.store_image_model.specs.declared.chunk.TheConstants.{CHUNK_ENTRIES}
use Rattle.store_image_model.specs.declared.chunk.CopyPlace.{CopyPlace}
use Rattle.store_image_model.specs.declared.chunk.CopyPlace.TheVariants as at
use Rattle.store_image_model.specs.declared.chunk.Piece.{Piece}
use Rattle.store_image_model.specs.declared.chunk.Piece.TheVariants.{Whole, Start, Page, Entries}
use Rattle.core_parts.specs.View.{CoreValue}
use Rattle.core_copies.specs.Shown.{FitsStoreOf, IsCellsOf}

-- all cells of the core, and an image of its store has room for them
abbrev pub IsWholeOf : {A : Type 0} → CoreValue → Piece A → Type 0
IsWholeOf v (Whole cells) = IsCellsOf v (cells_of cells) × FitsStoreOf v (cells_of cells)
IsWholeOf v (Start life lists) = ⊥
IsWholeOf v (Page page rows) = ⊥
IsWholeOf v (Entries entries) = ⊥

-- life and lists of these cells, which are all of the core's pages, and an image has room for them
pub record IsStartOf (v : CoreValue) (cells : Cells) (life : Life) (lists : Pending) : Type 0 where
  pub life-is : life ≡ cells.life
  pub lists-are : lists ≡ cells.pending
  pub inside : AreInside v.heap.pages cells
  pub fits : FitsStoreOf v (record { rows = map.empty; entries = map.empty; pending = lists; life = life })

-- the rows of a page of these cells
pub record IsPageOf (cells : Cells) (page : ℕ) (rows : Table) : Type 0 where
  pub rows-are : ArePageRows cells page rows
  pub slots : (q : Place) (r : Row) → map.get rows q ≡ Some r → q.slot < SLOTS_PER_PAGE

-- the next entries of these cells above a pair, in order: as many as a chunk takes, or all that are left
pub record AreEntriesOf (v : CoreValue) (cells : Cells) (above : Option Pair)
    (entries : List (Pair × Mark)) : Type 0 where
  pub more : Index
  pub listed : map.entries more ≡ entries
  pub most : length entries ≤ CHUNK_ENTRIES
  pub full : (last : Pair × Mark) → slice_get entries (CHUNK_ENTRIES - 1) ≡ Some last
      → AreNextEntries cells above (Some last.0) more
  pub rest : slice_get entries (CHUNK_ENTRIES - 1) ≡ None → AreLastEntries cells above more
  pub inside : (i : ℕ) (e : Pair × Mark) → slice_get entries i ≡ Some e → e.0.rid.page < v.heap.pages

-- what an image of these cells has at this place
abbrev pub IsPieceOf : {A : Type 0} → CoreValue → Cells → CopyPlace → Piece A → Type 0
IsPieceOf v cells at.Start (Start life lists) = IsStartOf v cells life lists
IsPieceOf v cells (at.Page page) (Page copied rows) = (copied ≡ page) × IsPageOf cells page rows
IsPieceOf v cells (at.Entries above) (Entries entries) = AreEntriesOf v cells above entries.items
IsPieceOf v cells _ _ = ⊥
