-- Which pages the halves of a store have as they are.
use Rattle.std.specs.Prelude.{◌≡◌, ◌⊎◌, ℕ, ◌+◌, ◌≤◌, ◌<◌, nat_lt, if◌then◌else◌, List, [], ◌∷◌, length}
use Rattle.std.specs.Prelude.{replicate, slice_index_or, slice_set, Option, Some, None, IfSome}
use Rattle.std.specs.Option.{option_map_or}
use Rattle.std.specs.FinMap as map
use Rattle.sector_device.specs.Disk.{CrashState, sector}
use Rattle.record_values.specs.GeometryValue.{GeometryValue}
use Rattle.record_values.specs.Values.{Place}
use Rattle.record_values.specs.declared.rid.TheConstants.{SLOTS_PER_PAGE}
use Rattle.record_values.specs.declared.row.Row.{Row}
use Rattle.records.specs.RecordValue.{RecordValue}
use Rattle.records.specs.declared.record.Part.TheVariants.{Slot, OldEntry, NewEntry}
use Rattle.records.specs.declared.record.TxnAction.{TxnAction}
use Rattle.records.specs.declared.record.TxnAction.TheVariants.{Forward, Undo, Commit, End}
use Rattle.records.specs.declared.record.Action.{Action}
use Rattle.records.specs.declared.record.Action.TheVariants.{OfTxn, OfIndex}
use Rattle.store_image_half.specs.Layout.{InPages}
use Rattle.store_image_half.specs.Part.{HasPage}
use Rattle.flip_image.specs.declared.half.Half.{Half}
use Rattle.flip_image.specs.Layout.{header_sector, other}
use Rattle.store_image_model.specs.Run.{Run, cells_at}
use Rattle.store_image_model.specs.declared.chunk.Piece.{Piece}
use Rattle.store_image_model.specs.declared.chunk.Piece.TheVariants.{Whole, Start, Page, Entries}
use Rattle.store_writer.specs.Parts.{changed_of, handed_of, known_here, known_there}
use Rattle.store_writer.specs.declared.image.NewImage.{NewImage}
use Rattle.store_writer.specs.declared.writer.Writer.{Writer}

-- ---- what records set

-- the place whose row a transaction's record sets
abbrev pub place_by_txn : TxnAction → Option Place
place_by_txn (Forward Slot change) = Some change.rid
place_by_txn (Forward OldEntry change) = None
place_by_txn (Forward NewEntry change) = None
place_by_txn (Undo Slot change last) = Some change.rid
place_by_txn (Undo OldEntry change last) = None
place_by_txn (Undo NewEntry change last) = None
place_by_txn Commit = None
place_by_txn End = None

-- and any record
abbrev pub place_set : Action → Option Place
place_set (OfTxn txn action) = place_by_txn action
place_set (OfIndex action) = None

-- the numbers of pages, one of which is set
abbrev pub with_number : List ℕ → (page number : ℕ) → List ℕ
with_number changed page number = if nat_lt page (length changed) then slice_set changed page number else changed

-- the page of the row that a record sets has the record's number
abbrev pub with_change : List ℕ → RecordValue → List ℕ
with_change changed r = option_map_or (λ (q : Place). with_number changed q.page r.number) (place_set r.action) changed

-- and so for these records, the first of them first
abbrev pub with_changes : List ℕ → List RecordValue → List ℕ
with_changes changed [] = changed
with_changes changed (r ∷ records) = with_changes (with_change changed r) records

-- the sectors of the half's pages are the same
abbrev pub SamePages : GeometryValue → Half → (image c : CrashState) → Type 0
SamePages g half image c = (n : ℕ) → InPages g (header_sector g half) n → sector c n ≡ sector image n

-- ---- what is known

-- no record above a number, up to `handed`, sets a row of the page
abbrev pub IsUnchanged : Run → (since handed page : ℕ) → Type 0
IsUnchanged run since handed page = (n : ℕ) (q : Place) → since ≤ n → n ≤ handed → q.page ≡ page
    → map.get (cells_at run n).rows q ≡ map.get (cells_at run handed).rows q

-- the half has the page as it is after the record `handed`
pub record HasPageNow (run : Run) (half : Half) (image : CrashState) (handed page : ℕ) : Type 0 where
  pub has : HasPage (header_sector run.geometry half) image page (cells_at run handed).rows
  pub slots : (q : Place) (r : Row) → q.page ≡ page → map.get (cells_at run handed).rows q ≡ Some r
      → q.slot < SLOTS_PER_PAGE

-- and so each page whose number is at most `low`
pub record HasUnchanged (run : Run) (half : Half) (image : CrashState) (handed : ℕ) (changed : List ℕ) (low : ℕ)
    : Type 0 where
  pub within : low ≤ handed
  pub pages : (page : ℕ) → page < length changed → slice_index_or changed page 0 ≤ low
      → HasPageNow run half image handed page

-- No record above a page's number sets a row of it. The current half has the pages whose numbers are at most one that
-- is known, and so has the other half.
pub record KnowsPages (run : Run) (half : Half) (image : CrashState) (handed : ℕ) (changed : List ℕ)
    (here there : Option ℕ) : Type 0 where
  pub few : length changed ≤ run.geometry.pages
  pub since : (page : ℕ) → page < length changed → IsUnchanged run (slice_index_or changed page 0) handed page
  pub current : IfSome here (HasUnchanged run half image handed changed)
  pub idle : IfSome there (HasUnchanged run (other half) image handed changed)

-- a half has the page as it is, by what is known of it
abbrev pub IsKnown : List ℕ → Option ℕ → (page : ℕ) → Type 0
IsKnown changed known page = (page < length changed)
    × ((low : ℕ) × (known ≡ Some low) × (slice_index_or changed page 0 ≤ low))

-- ---- and what becomes of that

-- as much as before
abbrev pub KnowsAsBefore : {D M : Type 0} → (old new : Writer D M) → Type 0
KnowsAsBefore old new = (changed_of new ≡ changed_of old) × (known_here new ≡ known_here old)
    × (known_there new ≡ known_there old)

-- The page of each row that these records set has the number of the last one that sets a row of it.
abbrev pub NotesChanges : {D M : Type 0} → List RecordValue → (old new : Writer D M) → Type 0
NotesChanges records old new = (changed_of new ≡ with_changes (changed_of old) records)
    × (known_here new ≡ known_here old) × (known_there new ≡ known_there old)

-- No page had a number. Each has that of the last record handed in now, and no half is known to have a page.
abbrev pub BeginsToKnow : {D M : Type 0} → (old new : Writer D M) → Type 0
BeginsToKnow old new = (changed_of old ≡ []) × (changed_of new ≡ replicate old.halves.geometry.pages (handed_of old))
    × (known_here new ≡ None) × (known_there new ≡ None)

-- A page as the record `number` left it was written into a half. What is known of the half stays, if that record isn't
-- above the last one handed in, nor below what is known; or else nothing may be known.
abbrev pub StaysKnown : (number handed : ℕ) → (old new : Option ℕ) → Type 0
StaysKnown number handed old new = ((new ≡ old) ⊎ (new ≡ None))
    × ((low : ℕ) → old ≡ Some low → low ≤ number → number ≤ handed → new ≡ old)

-- What is known once a piece was taken. At the start of an image a number may be begun for each page. A whole image and
-- entries may leave nothing known of the image's half.
abbrev pub KnowsBehind : {A D M : Type 0} → (number : ℕ) → Piece A → (old new : Writer D M) → Type 0
KnowsBehind number (Whole cells) old new = (changed_of new ≡ changed_of old) × (known_here new ≡ known_here old)
KnowsBehind number (Start life lists) old new = KnowsAsBefore old new ⊎ BeginsToKnow old new
KnowsBehind number (Page page rows) old new = (changed_of new ≡ changed_of old) × (known_here new ≡ known_here old)
    × StaysKnown number (handed_of old) (known_there old) (known_there new)
KnowsBehind number (Entries entries) old new = (changed_of new ≡ changed_of old) × (known_here new ≡ known_here old)

-- The image's half is current: it is known to have each page that no record above the image's base sets a row of. What
-- was known of the current half is known of the other one.
abbrev pub KnowsTurned : {D M : Type 0} → (old new : Writer D M) → Type 0
KnowsTurned old new = (changed_of new ≡ changed_of old) × (known_there new ≡ known_here old)
    × ((image : NewImage) → old.image ≡ Some image → known_here new ≡ Some image.base)
