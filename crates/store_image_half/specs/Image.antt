-- What an image says, each part by its bytes, and what it is to hold the image of some cells.
use Rattle.std.specs.Prelude.{◌≡◌, ◌⊎◌, ℕ, ◌+◌, ◌-◌, ◌*◌, ◌<◌, ◌≤◌, List, length, map, Option, Some, slice_get, take}
use Rattle.std.specs.Prelude.{drop}
use Rattle.std.specs.FinMap as finite
use Rattle.sector_device.specs.Disk.{CrashState, sector}
use Rattle.sector_device.specs.declared.device.TheConstants.{SECTOR_SIZE}
use Rattle.record_values.specs.Values.{Place}
use Rattle.records.specs.ChangeValue.{ChangeValue}
use Rattle.record_values.specs.GeometryValue.{GeometryValue, sectors_for}
use Rattle.records.specs.Spelling.{PairFitsIn}
use Rattle.record_values.specs.Version.{page_sectors, entries_per_sector}
use Rattle.record_values.specs.declared.version.Version.{Version}
use Rattle.record_values.specs.declared.version.Version.TheVariants.{Two}
use Rattle.record_values.specs.declared.rid.TheConstants.{SLOTS_PER_PAGE}
use Rattle.record_values.specs.declared.txn.TheConstants.{TXNS_MAX}
use Rattle.record_values.specs.declared.geometry.TheConstants.{ENTRIES_PER_SECTOR}
use Rattle.records.specs.declared.change.TheConstants.{CHANGES_MAX}
use Rattle.record_values.specs.declared.row.Row.{Row}
use Rattle.record_values.specs.declared.pair.Pair.{Pair}
use Rattle.record_values.specs.declared.pair.Mark.{Mark}
use Rattle.model.specs.declared.life.Life.TheVariants.{Absent, Building}
use Rattle.model.specs.Cells.{Cells}
use Rattle.store_image_parts.specs.declared.head.TheConstants.{HEAD_SIZE}
use Rattle.store_image_parts.specs.declared.entry.TheConstants.{ENTRY_SIZE}
use Rattle.store_image_parts.specs.declared.head.Head.{Head}
use Rattle.store_image_parts.specs.declared.header.Header.{Header}
use Rattle.store_image_parts.specs.declared.item.UndoItem.{UndoItem}
use Rattle.store_image_parts.specs.Spelling.{zeros, head, item_size, entry_size, row_in, entry_in, item_in, header_in}
use Rattle.store_image_parts.specs.Spelling.{RowFitsInIfSome, HeadFits, ItemFitsIn, HeaderFitsIn}
use Rattle.store_image_half.specs.declared.parts.TheConstants.{EDGE_SIZE}
use Rattle.store_image_half.specs.Layout.{heads_at, undo_at, items_per_sector, page_at_in, entries_at_in, cut, piece}
use Rattle.store_image_half.specs.Layout.{page_bytes_in, row_start, row_of, InPages, InList, InEntries}

-- ---- the parts, each by its bytes in a version of the format

-- The sector says this in a store of this geometry: no more entries than there is room for, and a highest pair that
-- names a row of the store's pages.
pub record IsHeaderIn (v : Version) (g : GeometryValue) (bytes : List ℕ) (h : Header) : Type 0 where
  pub spelled : bytes ≡ header_in v h
  pub fits : HeaderFitsIn v h
  pub room : h.entries ≤ g.entries
  pub inside : (p : Pair) → h.life ≡ Building (Some p) → p.rid.page < g.pages

-- The sector has these heads and zeros behind them, the transactions in the order of their numbers.
pub record AreHeads (bytes : List ℕ) (heads : List Head) : Type 0 where
  pub count : length heads ≤ TXNS_MAX
  pub spelled : (k : ℕ) → k < TXNS_MAX → cut bytes HEAD_SIZE k ≡ head (slice_get heads k)
  pub fits : (k : ℕ) (h : Head) → slice_get heads k ≡ Some h → HeadFits h
  pub rising : (k : ℕ) (a b : Head) → slice_get heads k ≡ Some a → slice_get heads (k + 1) ≡ Some b → a.txn < b.txn

-- the change of a row of the store's pages
pub record IsItemIn (v : Version) (g : GeometryValue) (bytes : List ℕ) (i : UndoItem) : Type 0 where
  pub spelled : bytes ≡ item_in v i
  pub fits : ItemFitsIn v i
  pub inside : i.rid.page < g.pages

-- a row, or none
pub record IsRowIn (v : Version) (bytes : List ℕ) (o : Option Row) : Type 0 where
  pub spelled : bytes ≡ row_in v o
  pub fits : RowFitsInIfSome v o

-- in the bytes of a page there are zeros in front of the rows and behind them
pub record HasEdges (v : Version) (page : List ℕ) : Type 0 where
  pub front : take EDGE_SIZE page ≡ zeros EDGE_SIZE
  pub behind : drop (row_start v SLOTS_PER_PAGE) page
      ≡ zeros (SECTOR_SIZE * page_sectors v - row_start v SLOTS_PER_PAGE)

-- an entry that names a row of the store's pages
pub record IsEntryIn (v : Version) (g : GeometryValue) (bytes : List ℕ) (e : Pair × Mark) : Type 0 where
  pub spelled : bytes ≡ entry_in v e
  pub fits : PairFitsIn v e.0
  pub inside : e.0.rid.page < g.pages

-- ---- where they stand in the image that begins at sector `first`

-- the undo item of a head at a position
abbrev pub item_bytes_in : Version → CrashState → (first h position : ℕ) → List ℕ
item_bytes_in v image first h position = piece image (undo_at first) (item_size v) (items_per_sector v)
    (CHANGES_MAX * h + position)

-- the row of a slot of a page
abbrev pub row_bytes_in : Version → CrashState → (first page slot : ℕ) → List ℕ
row_bytes_in v image first page slot = row_of v (page_bytes_in v image first page) slot

-- the bytes of the i-th entry of an image
abbrev pub entry_bytes_in : Version → GeometryValue → CrashState → (first i : ℕ) → List ℕ
entry_bytes_in v g image first i = piece image (entries_at_in v g first) (entry_size v) (entries_per_sector v) i

-- ---- the image

-- what the header says of these cells, with this number of the last record
abbrev pub header_of : ℕ → Cells → Header
header_of base cells = record { life = cells.life; base = base; entries = length (finite.entries cells.entries) }

-- the head of a transaction with its list
abbrev pub head_of : ℕ × List ChangeValue → Head
head_of list = record { txn = list.0; changes = length list.1 }

-- a change without its position
abbrev pub item_of : ChangeValue → UndoItem
item_of c = record { rid = c.rid; rows = c.rows }

-- These changes are the first undo items of a head, each a change of a row of the store's pages. They are numbered from
-- 0.
pub record HoldsListIn (v : Version) (g : GeometryValue) (first : ℕ) (image : CrashState) (h : ℕ)
    (changes : List ChangeValue) : Type 0 where
  pub positions : (p : ℕ) (c : ChangeValue) → slice_get changes p ≡ Some c → c.position ≡ p
  pub items : (p : ℕ) (c : ChangeValue) → slice_get changes p ≡ Some c
      → IsItemIn v g (item_bytes_in v image first h p) (item_of c)

-- From sector `first` on lies the image of these cells, which record `base` left: life, lists, rows and entries, each
-- in its place, and each of the store's pages.
pub record IsImageIn (v : Version) (g : GeometryValue) (first : ℕ) (image : CrashState) (base : ℕ)
    (cells : Cells) : Type 0 where
  pub header-is : IsHeaderIn v g (sector image first) (header_of base cells)
  pub heads-are : AreHeads (sector image (heads_at first)) (map head_of (finite.entries cells.pending))
  pub lists : (h : ℕ) (list : ℕ × List ChangeValue) → slice_get (finite.entries cells.pending) h ≡ Some list
      → HoldsListIn v g first image h list.1
  pub edges : (page : ℕ) → page < g.pages → HasEdges v (page_bytes_in v image first page)
  pub rows : (q : Place) → q.page < g.pages → q.slot < SLOTS_PER_PAGE
      → IsRowIn v (row_bytes_in v image first q.page q.slot) (finite.get cells.rows q)
  pub within : (q : Place) (r : Row) → finite.get cells.rows q ≡ Some r → (q.page < g.pages) × (q.slot < SLOTS_PER_PAGE)
  pub entries : (i : ℕ) (e : Pair × Mark) → slice_get (finite.entries cells.entries) i ≡ Some e
      → IsEntryIn v g (entry_bytes_in v g image first i) e

-- ---- in version 2, which is written

abbrev pub IsHeader : GeometryValue → List ℕ → Header → Type 0
IsHeader g bytes h = IsHeaderIn Two g bytes h

abbrev pub IsItem : GeometryValue → List ℕ → UndoItem → Type 0
IsItem g bytes i = IsItemIn Two g bytes i

abbrev pub IsRow : List ℕ → Option Row → Type 0
IsRow bytes o = IsRowIn Two bytes o

abbrev pub IsEntry : GeometryValue → List ℕ → Pair × Mark → Type 0
IsEntry g bytes e = IsEntryIn Two g bytes e

abbrev pub item_bytes : CrashState → (first h position : ℕ) → List ℕ
item_bytes image first h position = item_bytes_in Two image first h position

abbrev pub row_bytes : CrashState → (first page slot : ℕ) → List ℕ
row_bytes image first page slot = row_bytes_in Two image first page slot

abbrev pub entry_bytes : GeometryValue → CrashState → (first i : ℕ) → List ℕ
entry_bytes g image first i = entry_bytes_in Two g image first i

abbrev pub HoldsList : GeometryValue → ℕ → CrashState → ℕ → List ChangeValue → Type 0
HoldsList g first image h changes = HoldsListIn Two g first image h changes

abbrev pub IsImage : GeometryValue → ℕ → CrashState → ℕ → Cells → Type 0
IsImage g first image base cells = IsImageIn Two g first image base cells

-- ---- what lies behind the last entry

-- behind the first n entries, what is left of the sector of the last one is zeros
abbrev pub ZerosBehindEntries : GeometryValue → (first : ℕ) → CrashState → (n : ℕ) → Type 0
ZerosBehindEntries g first image n = (i : ℕ) → n ≤ i → i < ENTRIES_PER_SECTOR * sectors_for n ENTRIES_PER_SECTOR
    → entry_bytes g image first i ≡ zeros ENTRY_SIZE

-- ---- the sectors that an image takes

-- a sector of the undo items that these cells have
abbrev pub InLists : ℕ → Cells → ℕ → Type 0
InLists first cells n = (h : ℕ) × (list : ℕ × List ChangeValue)
    × (slice_get (finite.entries cells.pending) h ≡ Some list) × InList first h (length list.1) n

-- a sector of the heads, or of the undo items that these cells have
abbrev pub InStart : ℕ → Cells → ℕ → Type 0
InStart first cells n = (n ≡ heads_at first) ⊎ InLists first cells n

-- a sector of the image of these cells: header, heads, a page, or one of the undo items and of the entries that there
-- are
abbrev pub InImageOf : GeometryValue → ℕ → Cells → ℕ → Type 0
InImageOf g first cells n = (n ≡ first) ⊎ ((n ≡ heads_at first)
    ⊎ (InPages g first n ⊎ (InLists first cells n ⊎ InEntries g first 0 (length (finite.entries cells.entries)) n)))

-- no row, no entry, no transaction and no index
abbrev pub no_cells : Cells
no_cells = record { rows = finite.empty; entries = finite.empty; pending = finite.empty; life = Absent }
