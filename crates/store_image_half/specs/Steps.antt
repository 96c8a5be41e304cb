-- Words for the private steps of reading and writing an image. No public clause cites them.
use Rattle.std.specs.Prelude.{◌≡◌, ◌⊎◌, true, ℕ, ◌+◌, ◌-◌, ◌<◌, ◌≤◌, List, length, map, Option, Some, None, slice_get}
use Rattle.std.specs.FinMap as finite
use Rattle.sector_device.specs.Disk.{CrashState, SameOutside}
use Rattle.sector_device.specs.DevicePast.{DevicePast, RunsWithin}
use Rattle.record_values.specs.Values.{Place}
use Rattle.records.specs.ChangeValue.{ChangeValue}
use Rattle.record_values.specs.GeometryValue.{GeometryValue}
use Rattle.record_values.specs.declared.version.Version.{Version}
use Rattle.record_values.specs.declared.version.Version.TheVariants.{Two}
use Rattle.record_values.specs.declared.rid.TheConstants.{SLOTS_PER_PAGE}
use Rattle.record_values.specs.declared.row.Row.{Row}
use Rattle.record_values.specs.declared.pair.Pair.{Pair}
use Rattle.record_values.specs.declared.pair.Mark.{Mark}
use Rattle.record_values.specs.declared.error.Error.{Error}
use Rattle.record_values.specs.declared.error.Error.TheVariants.{Damaged}
use Rattle.model.specs.Table.{Table}
use Rattle.record_values.specs.Entries.{Index}
use Rattle.model.specs.Cells.{Pending}
use Rattle.store_image_parts.specs.declared.head.Head.{Head}
use Rattle.store_image_parts.specs.declared.head.TheConstants.{HEAD_SIZE}
use Rattle.store_image_parts.specs.declared.entry.TheConstants.{ENTRY_SIZE}
use Rattle.records.specs.Spelling.{PairFits}
use Rattle.store_image_parts.specs.Spelling.{zeros, entry, head, HeadFits}
use Rattle.store_image_half.specs.Layout.{undo_at, page_at, cut, page_bytes_in, row_of}
use Rattle.store_image_half.specs.Image.{HoldsListIn, HasEdges, IsRow, IsRowIn, IsEntryIn, row_bytes_in, entry_bytes_in}
use Rattle.store_image_half.specs.Image.{head_of}
use Rattle.store_image_half.specs.Damage.{AnItem, APage, AnEntry, sector_of, SaysSomethingIn, IsHindered}
use Rattle.store_image_half.specs.Source.{IsNextBehind}

-- the head may stand at index k behind these: each of those before it is used, and the last one has a lesser number
pub record IsNextHead (heads : List Head) (k : ℕ) (h : Head) : Type 0 where
  pub used : length heads ≡ k
  pub above : (last : Head) → slice_get heads (k - 1) ≡ Some last → last.txn < h.txn

-- the first k heads of the sector are these, with zeros behind them
pub record AreFirstHeads (bytes : List ℕ) (k : ℕ) (heads : List Head) : Type 0 where
  pub count : length heads ≤ k
  pub spelled : (j : ℕ) → j < k → cut bytes HEAD_SIZE j ≡ head (slice_get heads j)
  pub fits : (j : ℕ) (h : Head) → slice_get heads j ≡ Some h → HeadFits h
  pub rising : (j : ℕ) (a b : Head) → slice_get heads j ≡ Some a → slice_get heads (j + 1) ≡ Some b → a.txn < b.txn

-- these lists are those of the heads
pub record HoldsLists (v : Version) (g : GeometryValue) (first : ℕ) (image : CrashState) (heads : List Head)
    (pending : Pending) : Type 0 where
  pub heads-are : map head_of (finite.entries pending) ≡ heads
  pub each : (h : ℕ) (list : ℕ × List ChangeValue) → slice_get (finite.entries pending) h ≡ Some list
      → HoldsListIn v g first image h list.1

-- no row is in a slot of the page
abbrev pub AreRowsNone : List ℕ → Type 0
AreRowsNone page = (slot : ℕ) → slot < SLOTS_PER_PAGE → IsRow (row_of Two page slot) None

-- these rows are those of the first n pages
pub record HoldsPages (v : Version) (g : GeometryValue) (first : ℕ) (image : CrashState) (n : ℕ)
    (rows : Table) : Type 0 where
  pub edges : (page : ℕ) → page < n → HasEdges v (page_bytes_in v image first page)
  pub slots : (q : Place) → q.page < n → q.slot < SLOTS_PER_PAGE
      → IsRowIn v (row_bytes_in v image first q.page q.slot) (finite.get rows q)
  pub within : (q : Place) (r : Row) → finite.get rows q ≡ Some r → (q.page < n) × (q.slot < SLOTS_PER_PAGE)

-- these rows are those of the slots before this one of page n, and those of earlier pages
pub record HoldsSlots (v : Version) (first : ℕ) (image : CrashState) (n slot : ℕ) (before rows : Table) : Type 0 where
  pub slots : (q : Place) → q.page ≡ n → q.slot < slot
      → IsRowIn v (row_bytes_in v image first n q.slot) (finite.get rows q)
  pub behind : (q : Place) → q.page ≡ n → ¬ (q.slot < slot) → finite.get rows q ≡ None
  pub others : (q : Place) → ¬ (q.page ≡ n) → finite.get rows q ≡ finite.get before q

-- the bytes are this entry's spelling
pub record IsEntryPiece (bytes : List ℕ) (e : Pair × Mark) : Type 0 where
  pub spelled : bytes ≡ entry e
  pub fits : PairFits e.0

-- the bytes are the spelling of what there is, and zeros where there is nothing
abbrev pub IsEntryPlace : List ℕ → Option (Pair × Mark) → Type 0
IsEntryPlace bytes None = bytes ≡ zeros ENTRY_SIZE
IsEntryPlace bytes (Some e) = IsEntryPiece bytes e

-- these are the first n entries
pub record HoldsEntries (v : Version) (g : GeometryValue) (first : ℕ) (image : CrashState) (n : ℕ)
    (entries : Index) : Type 0 where
  pub count : length (finite.entries entries) ≡ n
  pub each : (i : ℕ) (e : Pair × Mark) → slice_get (finite.entries entries) i ≡ Some e
      → IsEntryIn v g (entry_bytes_in v g image first i) e

-- the pair of the last of the first n entries
abbrev pub IsLastPair : Index → ℕ → Option Pair → Type 0
IsLastPair entries n None = n ≡ 0
IsLastPair entries n (Some pair) = (m : ℕ) × (e : Pair × Mark) × (n ≡ m + 1)
    × (slice_get (finite.entries entries) m ≡ Some e) × (e.0 ≡ pair)

-- Why a step of reading was refused: there was no memory, or the device failed, or the part is the first of its kind
-- that says nothing.
abbrev pub IsItemRefused : Version → GeometryValue → ℕ → CrashState → (h count before now : ℕ) → Error → Type 0
IsItemRefused v g first image h count before now e = IsHindered before now e
    ⊎ ((p : ℕ) × (p < count) × (e ≡ Damaged (sector_of v g first (AnItem h p)))
    × (¬ SaysSomethingIn v g first image (AnItem h p)) × ((q : ℕ) → q < p
    → SaysSomethingIn v g first image (AnItem h q)))

-- why lists are not read: the first undo item, by head and position, that says nothing
abbrev pub AreListsRefused : Version → GeometryValue → ℕ → CrashState → List Head → (before now : ℕ) → Error → Type 0
AreListsRefused v g first image heads before now e = IsHindered before now e
    ⊎ ((h : ℕ) × (p : ℕ) × (x : Head) × (slice_get heads h ≡ Some x) × (p < x.changes)
    × (e ≡ Damaged (sector_of v g first (AnItem h p))) × (¬ SaysSomethingIn v g first image (AnItem h p))
    × ((q : ℕ) → q < p → SaysSomethingIn v g first image (AnItem h q))
    × ((k q : ℕ) (y : Head) → k < h → slice_get heads k ≡ Some y → q < y.changes
    → SaysSomethingIn v g first image (AnItem k q)))

-- why a page is not read: it says nothing
abbrev pub IsPageRefused : Version → GeometryValue → ℕ → CrashState → (page before now : ℕ) → Error → Type 0
IsPageRefused v g first image page before now e = IsHindered before now e
    ⊎ ((e ≡ Damaged (sector_of v g first (APage page))) × (¬ SaysSomethingIn v g first image (APage page)))

-- why pages are not read: the first that says nothing
abbrev pub ArePagesRefused : Version → GeometryValue → ℕ → CrashState → (before now : ℕ) → Error → Type 0
ArePagesRefused v g first image before now e = IsHindered before now e
    ⊎ ((page : ℕ) × (page < g.pages) × (e ≡ Damaged (sector_of v g first (APage page)))
    × (¬ SaysSomethingIn v g first image (APage page)) × ((earlier : ℕ) → earlier < page
    → SaysSomethingIn v g first image (APage earlier)))

-- why entries are not read: the first that says nothing
abbrev pub AreEntriesRefused : Version → GeometryValue → ℕ → CrashState → (count before now : ℕ) → Error → Type 0
AreEntriesRefused v g first image count before now e = IsHindered before now e
    ⊎ ((i : ℕ) × (i < count) × (e ≡ Damaged (sector_of v g first (AnEntry i)))
    × (¬ SaysSomethingIn v g first image (AnEntry i)) × ((j : ℕ) → j < i → SaysSomethingIn v g first image (AnEntry j)))

-- ---- writing

-- behind the entry of this key comes the n-th one, if there are so many
abbrev pub IsReached : {K X : Type 0} → List (K × X) → ℕ → Option K → Type 0
IsReached {K} {X} entries n key = (next : Option (K × X)) → IsNextBehind entries key next → next ≡ slice_get entries n

-- a sector of the undo items
abbrev pub InUndo : ℕ → ℕ → Type 0
InUndo first n = (undo_at first ≤ n) × (n < page_at first 0)

-- Only sectors of S were written: a crash at any moment since leaves the others, but for those that were unsynced.
pub record WritesIn (S : ℕ → Type 0) (old new : DevicePast) : Type 0 where
  pub outside : SameOutside S old.disk.content new.disk.content
  pub within : RunsWithin (λ n. S n ⊎ (old.disk.unsynced n ≡ true)) old.disk.content old new
