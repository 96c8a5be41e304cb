-- Where an image is damaged: the first sector with a part that says nothing which an image may say.
use Rattle.std.specs.Prelude.{◌≡◌, ◌⊎◌, ℕ, ◌+◌, ◌*◌, ◌<◌, List, Option, Some, slice_get}
use Rattle.std.specs.declared.cmp.Ordering.TheVariants.{Less}
use Rattle.sector_device.specs.Disk.{CrashState, sector}
use Rattle.sector_device.specs.DevicePast.{Rises}
use Rattle.record_values.specs.GeometryValue.{GeometryValue}
use Rattle.record_values.specs.Version.{entries_per_sector}
use Rattle.record_values.specs.declared.version.Version.{Version}
use Rattle.record_values.specs.Orders.{pair_cmp}
use Rattle.record_values.specs.declared.rid.TheConstants.{SLOTS_PER_PAGE}
use Rattle.records.specs.declared.change.TheConstants.{CHANGES_MAX}
use Rattle.record_values.specs.declared.row.Row.{Row}
use Rattle.record_values.specs.declared.pair.Pair.{Pair}
use Rattle.record_values.specs.declared.pair.Mark.{Mark}
use Rattle.record_values.specs.declared.error.Error.{Error}
use Rattle.record_values.specs.declared.error.Error.TheVariants.{NoMemory, DeviceFailed, Damaged}
use Rattle.store_image_parts.specs.declared.head.Head.{Head}
use Rattle.store_image_parts.specs.declared.header.Header.{Header}
use Rattle.store_image_parts.specs.declared.item.UndoItem.{UndoItem}
use Rattle.store_image_half.specs.Layout.{heads_at, undo_at, items_per_sector, page_at_in, entries_at_in}
use Rattle.store_image_half.specs.Layout.{sector_of_piece}
use Rattle.store_image_half.specs.Layout.{page_bytes_in}
use Rattle.store_image_half.specs.Image.{IsHeaderIn, AreHeads, IsItemIn, HasEdges, IsRowIn, IsEntryIn, item_bytes_in}
use Rattle.store_image_half.specs.Image.{row_bytes_in, entry_bytes_in}

-- the parts that a reader looks at
pub data Part : Type 0 where
  TheHeader : Part
  TheHeads : Part
  AnItem : (h position : ℕ) → Part
  APage : ℕ → Part
  AnEntry : ℕ → Part

-- the sector that a part is named by: of a page the first
abbrev pub sector_of : Version → GeometryValue → ℕ → Part → ℕ
sector_of v g first TheHeader = first
sector_of v g first TheHeads = heads_at first
sector_of v g first (AnItem h position) = sector_of_piece (undo_at first) (items_per_sector v)
    (CHANGES_MAX * h + position)
sector_of v g first (APage page) = page_at_in v first page
sector_of v g first (AnEntry i) = sector_of_piece (entries_at_in v g first) (entries_per_sector v) i

-- A reader looks at the part: at as many undo items of a head as the head says, at the pages of the geometry, and at as
-- many entries as the header says. Where the heads or the header say nothing, at none.
abbrev pub IsLookedAt : Version → GeometryValue → ℕ → CrashState → Part → Type 0
IsLookedAt v g first image TheHeader = Unit {0}
IsLookedAt v g first image TheHeads = Unit {0}
IsLookedAt v g first image (AnItem h position) = (heads : List Head) × (x : Head)
    × AreHeads (sector image (heads_at first)) heads × (slice_get heads h ≡ Some x) × (position < x.changes)
IsLookedAt v g first image (APage page) = page < g.pages
IsLookedAt v g first image (AnEntry i) = (h : Header) × IsHeaderIn v g (sector image first) h × (i < h.entries)

-- the entry is above the one before it
abbrev pub IsAbove : Version → GeometryValue → ℕ → CrashState → ℕ → Pair × Mark → Type 0
IsAbove v g first image i e = (j : ℕ) (d : Pair × Mark) → i ≡ j + 1 → IsEntryIn v g (entry_bytes_in v g image first j) d
    → pair_cmp d.0 e.0 ≡ Less

-- The part says something: a header, heads, a change, the rows of a page with zeros in front of them and behind, or an
-- entry that is above the one before it.
abbrev pub SaysSomethingIn : Version → GeometryValue → ℕ → CrashState → Part → Type 0
SaysSomethingIn v g first image TheHeader = (h : Header) × IsHeaderIn v g (sector image first) h
SaysSomethingIn v g first image TheHeads = (heads : List Head) × AreHeads (sector image (heads_at first)) heads
SaysSomethingIn v g first image (AnItem h position) = (i : UndoItem)
    × IsItemIn v g (item_bytes_in v image first h position) i
SaysSomethingIn v g first image (APage page) = HasEdges v (page_bytes_in v image first page)
    × ((slot : ℕ) → slot < SLOTS_PER_PAGE → (o : Option Row) × IsRowIn v (row_bytes_in v image first page slot) o)
SaysSomethingIn v g first image (AnEntry i) = (e : Pair × Mark) × IsEntryIn v g (entry_bytes_in v g image first i) e
    × IsAbove v g first image i e

-- a part that a reader looks at and that says nothing is named by this sector
pub record IsDamagedAtIn (v : Version) (g : GeometryValue) (first : ℕ) (image : CrashState) (n : ℕ) : Type 0 where
  pub part : Part
  pub looked : IsLookedAt v g first image part
  pub unsound : ¬ SaysSomethingIn v g first image part
  pub sector-is : n ≡ sector_of v g first part

-- the first sector that the image is damaged at
pub record IsFirstDamagedIn (v : Version) (g : GeometryValue) (first : ℕ) (image : CrashState) (n : ℕ) : Type 0 where
  pub damaged : IsDamagedAtIn v g first image n
  pub before : (earlier : ℕ) → earlier < n → ¬ IsDamagedAtIn v g first image earlier

-- there was no memory, or the device failed
abbrev pub IsHindered : ℕ → ℕ → Error → Type 0
IsHindered before now e = (e ≡ NoMemory) ⊎ ((e ≡ DeviceFailed) × Rises before now)

-- why no image was read: the image is damaged, or there was no memory, or the device failed
abbrev pub IsUnreadIn : Version → GeometryValue → ℕ → CrashState → ℕ → ℕ → Error → Type 0
IsUnreadIn v g first image before now e = IsHindered before now e
    ⊎ ((n : ℕ) × (e ≡ Damaged n) × IsFirstDamagedIn v g first image n)
