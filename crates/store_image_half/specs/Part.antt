-- An image that is written part by part.
use Rattle.std.specs.Prelude.{◌≡◌, ℕ, ◌+◌, ◌<◌, ◌≤◌, List, length, map, Some, slice_get}
use Rattle.std.specs.FinMap as finite
use Rattle.sector_device.specs.Disk.{CrashState, sector}
use Rattle.record_values.specs.Values.{Place}
use Rattle.records.specs.ChangeValue.{ChangeValue}
use Rattle.record_values.specs.GeometryValue.{GeometryValue}
use Rattle.record_values.specs.declared.version.Version.TheVariants.{Two}
use Rattle.record_values.specs.declared.rid.TheConstants.{SLOTS_PER_PAGE}
use Rattle.record_values.specs.declared.row.Row.{Row}
use Rattle.record_values.specs.declared.pair.Pair.{Pair}
use Rattle.record_values.specs.declared.pair.Mark.{Mark}
use Rattle.model.specs.Table.{Table}
use Rattle.model.specs.Cells.{Cells}
use Rattle.store_image_half.specs.Layout.{heads_at, page_bytes}
use Rattle.store_image_half.specs.Image.{AreHeads, HoldsList, HasEdges, IsRow, IsEntry, row_bytes, entry_bytes, head_of}

-- From sector `first` on lies what an image of these cells has but for its header: the lists, the rows in the first
-- pages, of which there are so many, and the entries, each in its place. No row is in a later page.
pub record IsImagePart (g : GeometryValue) (first : ℕ) (image : CrashState) (pages : ℕ) (cells : Cells) : Type 0 where
  pub low : pages ≤ g.pages
  pub room : length (finite.entries cells.entries) ≤ g.entries
  pub heads-are : AreHeads (sector image (heads_at first)) (map head_of (finite.entries cells.pending))
  pub lists : (h : ℕ) (list : ℕ × List ChangeValue) → slice_get (finite.entries cells.pending) h ≡ Some list
      → HoldsList g first image h list.1
  pub edges : (page : ℕ) → page < pages → HasEdges Two (page_bytes image first page)
  pub rows : (q : Place) → q.page < pages → q.slot < SLOTS_PER_PAGE
      → IsRow (row_bytes image first q.page q.slot) (finite.get cells.rows q)
  pub within : (q : Place) (r : Row) → finite.get cells.rows q ≡ Some r → (q.page < pages) × (q.slot < SLOTS_PER_PAGE)
  pub entries : (i : ℕ) (e : Pair × Mark) → slice_get (finite.entries cells.entries) i ≡ Some e
      → IsEntry g (entry_bytes g image first i) e

-- the page has these rows in its slots, and zeros in front of them and behind
pub record HasPage (first : ℕ) (image : CrashState) (page : ℕ) (rows : Table) : Type 0 where
  pub edges : HasEdges Two (page_bytes image first page)
  pub slots : (slot : ℕ) → slot < SLOTS_PER_PAGE
      → IsRow (row_bytes image first page slot) (finite.get rows (record { page = page; slot = slot }))

-- the second table has the rows of the first one in the pages before this one, and in this one rows of its slots, and
-- no others
pub record IsWithPage (page : ℕ) (before rows : Table) : Type 0 where
  pub earlier : (q : Place) → q.page < page → finite.get rows q ≡ finite.get before q
  pub within : (q : Place) (r : Row) → finite.get rows q ≡ Some r → (q.page < page + 1) × (q.slot < SLOTS_PER_PAGE)
