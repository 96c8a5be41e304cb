-- How far an image that is copied in steps has come.
use Rattle.std.specs.Prelude.{◌≡◌, ℕ, ◌-◌, ◌<◌, ◌≤◌, List, length, Option, Some, None, slice_get}
use Rattle.std.specs.FinMap as map
use Rattle.record_values.specs.Values.{Place}
use Rattle.record_values.specs.declared.rid.TheConstants.{SLOTS_PER_PAGE}
use Rattle.record_values.specs.declared.row.Row.{Row}
use Rattle.record_values.specs.declared.pair.Pair.{Pair}
use Rattle.record_values.specs.declared.pair.Mark.{Mark}
use Rattle.model.specs.declared.life.Life.{Life}
use Rattle.model.specs.Table.{Table}
use Rattle.record_values.specs.Entries.{Index}
use Rattle.store_image_model.specs.Run.{Run, end_of, cells_at}
use Rattle.store_image_model.specs.Partly.{ArePageRows, AreNextEntries, AreLastEntries}
use Rattle.store_image_model.specs.declared.chunk.TheConstants.{CHUNK_ENTRIES}
use Rattle.store_image_model.specs.declared.chunk.CopyPlace.{CopyPlace}
use Rattle.store_image_model.specs.declared.chunk.CopyPlace.TheVariants as at
use Rattle.store_writer.specs.declared.image.NewImage.{NewImage}
use Rattle.store_writer.specs.declared.image.Stage.TheVariants as stage

-- An image is under way. Where there is no place it is whole; else its next chunk is the one of this place, of so many
-- pages.
abbrev pub IsAtPlace : (pages : ℕ) → Option CopyPlace → Option NewImage → Type 0
IsAtPlace pages None image = (i : NewImage) × (image ≡ Some i) × (i.stage ≡ stage.Whole)
IsAtPlace pages (Some at.Start) image = ⊥
IsAtPlace pages (Some (at.Page page)) image = (page < pages)
    × ((i : NewImage) × (life : Life) × (image ≡ Some i) × (i.stage ≡ stage.Partly page 0 None life))
IsAtPlace pages (Some (at.Entries above)) image = (i : NewImage) × (count : ℕ) × (life : Life) × (image ≡ Some i)
    × (i.stage ≡ stage.Partly pages count above life)

-- these are the rows of a page as the last record made left them
pub record AreRowsNow (run : Run) (page : ℕ) (rows : Table) : Type 0 where
  pub rows-are : ArePageRows (cells_at run (end_of run)) page rows
  pub slots : (q : Place) (r : Row) → map.get rows q ≡ Some r → q.slot < SLOTS_PER_PAGE

-- these are the entries above a pair as the last record made left them, in order: as many as a chunk takes, or all
pub record AreEntriesNow (run : Run) (above : Option Pair) (entries : List (Pair × Mark)) : Type 0 where
  pub more : Index
  pub listed : map.entries more ≡ entries
  pub most : length entries ≤ CHUNK_ENTRIES
  pub full : (last : Pair × Mark) → slice_get entries (CHUNK_ENTRIES - 1) ≡ Some last
      → AreNextEntries (cells_at run (end_of run)) above (Some last.0) more
  pub rest : slice_get entries (CHUNK_ENTRIES - 1) ≡ None → AreLastEntries (cells_at run (end_of run)) above more
  pub inside : (i : ℕ) (e : Pair × Mark) → slice_get entries i ≡ Some e → e.0.rid.page < run.geometry.pages
