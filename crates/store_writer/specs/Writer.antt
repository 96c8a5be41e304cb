-- What the writer keeps of the records that were handed to it, and of the image under way.
use Rattle.std.specs.Prelude.{◌≡◌, ◌≢◌, ◌⊎◌, ℕ, ◌+◌, ◌-◌, ◌≤◌, ◌<◌, true, false, List, [], ◌++◌, length, take, drop}
use Rattle.std.specs.Prelude.{Option, Some, None, IfSome, slice_get}
use Rattle.std.specs.Prelude.{Result, Ok, OnOk, OnErr, IfOk, IfErr}
use Rattle.std.specs.Option.{option_map_or}
use Rattle.std.specs.FinMap as map
use Rattle.sector_device.specs.Disk.{CrashState, IsSynced, IsCrashState, SameOutside}
use Rattle.sector_device.specs.DevicePast.{DevicePast, LeavesOnly, Rises}
use Rattle.records.specs.RecordValue.{RecordValue}
use Rattle.record_values.specs.declared.number.TheConstants.{LAST_NUMBER}
use Rattle.record_values.specs.declared.error.Error.{Error}
use Rattle.record_values.specs.declared.error.Error.TheVariants.{NoMemory, DeviceFailed}
use Rattle.model.specs.Cells.{Cells, Pending, list_of}
use Rattle.model.specs.Inside.{AreInside}
use Rattle.model.specs.Table.{Table}
use Rattle.record_values.specs.Entries.{Index}
use Rattle.model.specs.declared.life.Life.{Life}
use Rattle.record_values.specs.Values.{Place}
use Rattle.record_values.specs.declared.rid.TheConstants.{SLOTS_PER_PAGE}
use Rattle.record_values.specs.declared.row.Row.{Row}
use Rattle.record_values.specs.declared.pair.Pair.{Pair}
use Rattle.record_values.specs.declared.pair.Mark.{Mark}
use Rattle.store_image_model.specs.Partly.{ArePageRows, AreNextEntries, AreLastEntries}
use Rattle.model.specs.Following.{ArePlaced}
use Rattle.gate_log.specs.Area.{InSlot, Log, Stands}
use Rattle.gate_log.specs.Group.{FitsGroup, spellings}
use Rattle.gate_log.specs.declared.group.TheConstants.{GROUP_MAX}
use Rattle.flip_image.specs.Layout.{HalvesValue, other, InHalfImage, InLog}
use Rattle.flip_image.specs.Store.{IsStore}
use Rattle.store_image_model.specs.Places.{place_behind}
use Rattle.store_image_model.specs.Run.{Run, IsRun, end_of, cells_at, records_between}
use Rattle.store_reader.specs.Contents.{log_area}
use Rattle.store_writer.specs.declared.writer.Writer.{Writer}
use Rattle.store_writer.specs.declared.writer.FlushReply.{FlushReply}
use Rattle.store_writer.specs.declared.writer.FlushReply.TheVariants.{Flushed, Nothing, LogFull}
use Rattle.store_writer.specs.Contents.{HalfHas, LeftBy}
use Rattle.store_image_half.specs.Source.{FitsImage}
use Rattle.store_writer.specs.declared.image.NewImage.{NewImage}
use Rattle.store_writer.specs.declared.image.Stage.{Stage}
use Rattle.store_writer.specs.declared.image.Stage.TheVariants as stage
use Rattle.store_writer.specs.declared.writer.StepReply.{StepReply}
use Rattle.store_writer.specs.declared.writer.StepReply.TheVariants.{Taken, StartAgain}
use Rattle.store_image_model.specs.declared.chunk.TheConstants.{CHUNK_ENTRIES}
use Rattle.store_image_model.specs.declared.chunk.Piece.{Piece}
use Rattle.store_image_model.specs.declared.chunk.Piece.TheVariants.{Whole, Start, Page, Entries}
use Rattle.model.specs.Redo.{cells_of}
use Rattle.store_writer.specs.declared.writer.FlipReply.{FlipReply}
use Rattle.store_writer.specs.declared.writer.FlipReply.TheVariants.{Flipped, Behind}
use Rattle.store_writer.specs.declared.copying.Copying.TheVariants.{Idle, Steps, GivenUp}
use Rattle.store_image_model.specs.declared.chunk.CopyPlace.TheVariants as place
use Rattle.store_writer.specs.Copying.{IsCopying, next_place, page_behind}
use Rattle.store_writer.specs.declared.image.Plan.{Plan}
use Rattle.store_writer.specs.Image.{BecomesImage, InNewSlot, IsPlan, IsUnderway, reach}
use Rattle.store_writer.specs.Known.{IsKnown, KnowsPages}
use Rattle.store_writer.specs.Parts.{changed_of, handed_of, known_there, without_image}

-- ---- what it stands for

module _ {D M : Type 0} (past_of : D → DevicePast) (run : Run) where
  -- The current half has the cells after the last synced record, and the log knows its open slots. No sector is
  -- unsynced but of the other half's image, and an image under way is in that half, where its copying is. What is known
  -- of pages is so.
  pub record StandsFor (w : Writer D M) : Type 0 where
    pub store : IsStore run.geometry w.halves.current (past_of w.device).disk.content
    pub has : HalfHas run.geometry w.halves.current (past_of w.device).disk.content w.synced (cells_at run w.synced)
    pub area-is : w.log.area ≡ log_area run.geometry w.halves.current
    pub groups : List (List RecordValue)
    pub stands : Stands w.log (past_of w.device).disk.content groups
    pub loose : (n : ℕ) → (past_of w.device).disk.unsynced n ≡ true
        → InHalfImage run.geometry (other w.halves.current) n
    pub image : IfSome w.image (IsUnderway run (other w.halves.current) (past_of w.device).disk.content w.synced)
    pub copying : IsCopying run.geometry.pages w.copying w.image
    pub known : KnowsPages run w.halves.current (past_of w.device).disk.content (handed_of w) w.known.changed.items
        w.known.current w.known.other

  -- The records of the run up to number `handed` were handed in. The device stands for those up to the last synced one,
  -- unless it failed, and the others wait. A crash now leaves the cells after one of them, no earlier than the last
  -- synced one.
  pub record IsWriter (handed : ℕ) (w : Writer D M) : Type 0 where
    pub run-is : IsRun run
    pub geometry-is : w.halves.geometry ≡ run.geometry
    pub opened : run.last ≤ w.synced
    pub reached : w.synced ≤ handed
    pub made : handed ≤ end_of run
    pub small : handed ≤ LAST_NUMBER
    pub waits : w.waiting ≡ records_between run w.synced handed
    pub holds : w.failed ≡ false → StandsFor w
    pub images : (image : CrashState) → IsCrashState (past_of w.device).disk image → LeftBy run w.synced handed image

-- The first `count` waiting records are in the log of the current half, synced, and the writer doesn't count them yet.
-- (No public clause cites this.)
module _ {D M : Type 0} (past_of : D → DevicePast) (run : Run) where
  pub record HasAppended (handed count : ℕ) (w : Writer D M) : Type 0 where
    pub run-is : IsRun run
    pub geometry-is : w.halves.geometry ≡ run.geometry
    pub opened : run.last ≤ w.synced
    pub made : handed ≤ end_of run
    pub small : handed ≤ LAST_NUMBER
    pub within : w.synced + count ≤ handed
    pub waits : w.waiting ≡ records_between run w.synced handed
    pub store : IsStore run.geometry w.halves.current (past_of w.device).disk.content
    pub has : HalfHas run.geometry w.halves.current (past_of w.device).disk.content (w.synced + count)
        (cells_at run (w.synced + count))
    pub area-is : w.log.area ≡ log_area run.geometry w.halves.current
    pub groups : List (List RecordValue)
    pub stands : Stands w.log (past_of w.device).disk.content groups
    pub all_synced : IsSynced (past_of w.device).disk
    pub image : IfSome w.image (IsUnderway run (other w.halves.current) (past_of w.device).disk.content w.synced)
    pub copying : IsCopying run.geometry.pages w.copying w.image
    pub known : KnowsPages run w.halves.current (past_of w.device).disk.content (handed_of w) w.known.changed.items
        w.known.current w.known.other

-- some records of some run were handed in
abbrev pub IsSomewhere : {D M : Type 0} → (D → DevicePast) → Writer D M → Type 0
IsSomewhere past_of w = (run : Run) × (handed : ℕ) × IsWriter past_of run handed w

-- ---- how it begins, and goes on

-- a store is as it was opened, and no record was made since
abbrev pub opened_run : HalvesValue → ℕ → Cells → Run
opened_run halves last cells = record { geometry = halves.geometry; last = last; cells = cells; records = [] }

-- The disk is synced, and the current half of the store has these cells after record `last`. The log knows its open
-- slots.
pub record IsOpenedAt (now : DevicePast) (halves : HalvesValue) (log : Log) (last : ℕ) (cells : Cells) : Type 0 where
  pub store : IsStore halves.geometry halves.current now.disk.content
  pub has : HalfHas halves.geometry halves.current now.disk.content last cells
  pub area-is : log.area ≡ log_area halves.geometry halves.current
  pub groups : List (List RecordValue)
  pub stands : Stands log now.disk.content groups
  pub all_synced : IsSynced now.disk
  pub placed : (txn : ℕ) → ArePlaced halves.geometry.pages 0 (list_of cells.pending txn)
  pub small : last ≤ LAST_NUMBER

-- more records are made
abbrev pub longer : Run → List RecordValue → Run
longer run more = record run { records = run.records ++ more }

-- the records are the next ones of the run behind number `handed`
pub record AreNext (run : Run) (handed : ℕ) (records : List RecordValue) : Type 0 where
  pub made : handed + length records ≤ end_of run
  pub small : handed + length records ≤ LAST_NUMBER
  pub records-are : records ≡ records_between run handed (handed + length records)

-- ---- what a flush writes

-- a sector of the current half's log or, where an image is under way, of the other half's
abbrev pub InLogs : {D M : Type 0} → Writer D M → ℕ → Type 0
InLogs w n = InLog w.halves.geometry w.halves.current n
    ⊎ ((w.image ≢ None) × InLog w.halves.geometry (other w.halves.current) n)

-- a sector of the slot that a flush opens, the first behind the open ones: in the current half's log and, where an
-- image is under way, in the log of its half
abbrev pub InOpenedSlots : {D M : Type 0} → Writer D M → ℕ → Type 0
InOpenedSlots w n = InSlot w.log.area w.log.open_slots n ⊎ InNewSlot w.image n

-- Only these logs were written, and they lie where they lay. Each other sector holds what it held before the call, and
-- so it does after a crash at any moment of the call, if it was synced before. One that was not, such as one of an
-- image under way, may hold anything after a crash, as it might before.
pub record WritesLogsAlone {D M : Type 0} (past_of : D → DevicePast) (old new : Writer D M) : Type 0 where
  pub halves-are : new.halves ≡ old.halves
  pub area-is : new.log.area ≡ old.log.area
  pub none-begun : old.image ≡ None → new.image ≡ None
  pub now : SameOutside (InLogs old) (past_of old.device).disk.content (past_of new.device).disk.content
  pub images : LeavesOnly (past_of old.device) (past_of new.device)
      (SameOutside (λ n. InLogs old n ⊎ ((past_of old.device).disk.unsynced n ≡ true))
      (past_of old.device).disk.content)

-- ---- what a call writes

-- Of these sectors alone one was written. Each other sector holds what it held before the call, and so it does after a
-- crash at any moment of the call, if it was synced before.
pub record WritesOnly {D : Type 0} (past_of : D → DevicePast) (sectors : ℕ → Type 0) (old new : D) : Type 0 where
  pub now : SameOutside sectors (past_of old).disk.content (past_of new).disk.content
  pub images : LeavesOnly (past_of old) (past_of new)
      (SameOutside (λ n. sectors n ⊎ ((past_of old).disk.unsynced n ≡ true)) (past_of old).disk.content)

-- ---- what a call leaves that didn't succeed

-- but for the device, and that it failed, all is as it was
abbrev pub IsAsBefore : {D M : Type 0} → Writer D M → Writer D M → Type 0
IsAsBefore old new = new ≡ record old { device = new.device; failed = new.failed }

-- And so it is after a flush. Where an image is under way, the group may be in the current half's log and not in the
-- image's.
pub record IsBeforeFlush {D M : Type 0} (old new : Writer D M) : Type 0 where
  pub rest : new ≡ record old { device = new.device; failed = new.failed; log = new.log }
  pub log-is : old.image ≡ None → new.log ≡ old.log

-- ---- answers

-- The first n of the records fill one group: they fit it, and with one more they take too many bytes, or there is no
-- other.
pub record FillsGroup (records : List RecordValue) (n : ℕ) : Type 0 where
  pub fits : FitsGroup (take n records)
  pub full : n < length records → GROUP_MAX < length (spellings (take (n + 1) records))

-- every slot of the current half's log is open
abbrev pub IsLogFull : {D M : Type 0} → Writer D M → Type 0
IsLogFull w = w.log.open_slots ≡ w.halves.geometry.slots

-- the log has one group more, with the records up to the new last synced one, which wait no more; the half is the same
pub record HasGroupMore {D M : Type 0} (old new : Writer D M) : Type 0 where
  pub halves-are : new.halves ≡ old.halves
  pub log-is : new.log ≡ record old.log { open_slots = old.log.open_slots + 1 }
  pub waiting-are : new.waiting ≡ drop (new.synced - old.synced) old.waiting

-- more records are synced, as many of those that waited as fill a group; or none waited; or every slot is open
abbrev pub IsFlushReply : {D M : Type 0} → FlushReply → Writer D M → Writer D M → Type 0
IsFlushReply (Flushed n) old new = (n ≡ new.synced) × (old.synced < n) × FillsGroup old.waiting (n - old.synced)
    × HasGroupMore old new
IsFlushReply Nothing old new = (new ≡ old) × (old.waiting ≡ [])
IsFlushReply LogFull old new = (new ≡ old) × IsLogFull old × (old.waiting ≢ [])

-- Why nothing was flushed: there was no memory for a group of the records that wait, though a slot is closed; or the
-- device failed, now or earlier, and is left alone from then on.
abbrev pub IsNotFlushed : {D M : Type 0} → (D → ℕ) → Error → Writer D M → Writer D M → Type 0
IsNotFlushed failures e old new =
    ((e ≡ NoMemory) × (old.failed ≡ false) × (old.waiting ≢ []) × (¬ IsLogFull old) × (new ≡ old))
    ⊎ ((e ≡ DeviceFailed) × (new.failed ≡ true) × (old.failed ≡ false → (old.waiting ≢ [])
    × Rises (failures old.device) (failures new.device)) × (old.failed ≡ true → new ≡ old))

-- What becomes of the image, whatever the answer is, after the first `count` waiting records were added to the current
-- half's log. (No public clause cites this.)
pub record HasCarriedOn {D M : Type 0} (past_of : D → DevicePast) (failures : D → ℕ) (count : ℕ) (plan : Plan M)
    (old new : Writer D M) (result : Result FlushReply Error) : Type 0 where
  pub writer : (run : Run) (handed : ℕ) → HasAppended past_of run handed count old → IsWriter past_of run handed new
  pub images : (run : Run) (handed : ℕ) → HasAppended past_of run handed count old
      → LeavesOnly (past_of old.device) (past_of new.device) (LeftBy run old.synced handed)
  pub flushed : IfOk result (λ reply. (reply ≡ Flushed new.synced) × (new.synced ≡ old.synced + count)
      × (new.failed ≡ old.failed))
  pub rest : OnOk result ((new.halves ≡ old.halves) × (new.log ≡ old.log)
      × (new.waiting ≡ drop count old.waiting))
  pub image : OnOk result ((run : Run) (handed slots : ℕ) → HasAppended past_of run handed count old
      → slots ≡ run.geometry.slots → 0 < count → IsPlan old.image slots old.synced (take count old.waiting) plan
      → BecomesImage slots old.synced count old.image new.image)
  pub err : IfErr result (λ e. (e ≡ DeviceFailed) × (new.failed ≡ true) × (new.synced ≡ old.synced)
      × Rises (failures old.device) (failures new.device))
  pub copying-is : new.copying ≡ old.copying
  pub known-is : new.known ≡ old.known
  pub quiet : OnOk result (failures new.device ≡ failures old.device)
  pub later : failures old.device ≤ failures new.device
  pub around : WritesLogsAlone past_of old new
  pub slot : WritesOnly past_of (InNewSlot old.image) old.device new.device
  pub left : OnErr result ((old.image ≢ None) × IsAsBefore old new)

-- What a flush of a group leaves, whatever it answers. (No public clause cites this.)
pub record HasFlushed {D M : Type 0} (past_of : D → DevicePast) (failures : D → ℕ) (old new : Writer D M)
    (result : Result FlushReply Error) : Type 0 where
  pub writer : (run : Run) (handed : ℕ) → IsWriter past_of run handed old → IsWriter past_of run handed new
  pub images : (run : Run) (handed : ℕ) → IsWriter past_of run handed old
      → LeavesOnly (past_of old.device) (past_of new.device) (LeftBy run old.synced handed)
  pub flushed : IfOk result (λ reply. IsFlushReply reply old new)
  pub image : (n : ℕ) → result ≡ Ok (Flushed n)
      → BecomesImage old.halves.geometry.slots old.synced (n - old.synced) old.image new.image
  pub copying-is : new.copying ≡ old.copying
  pub known-is : new.known ≡ old.known
  pub sound : OnOk result ((old.failed ≡ false) × (new.failed ≡ false))
  pub full : old.failed ≡ false → old.waiting ≢ [] → IsLogFull old → result ≡ Ok LogFull
  pub err : IfErr result (λ e. IsNotFlushed failures e old new)
  pub kept : OnErr result (new.synced ≡ old.synced)
  pub quiet : OnOk result (failures new.device ≡ failures old.device)
  pub later : failures old.device ≤ failures new.device
  pub around : WritesLogsAlone past_of old new
  pub slot : WritesOnly past_of (InOpenedSlots old) old.device new.device
  pub left : OnErr result (IsBeforeFlush old new)

-- these are all cells as they were after the record `number`, and an image has room for them
pub record IsWholeChunk (run : Run) (synced number : ℕ) (cells : Cells) : Type 0 where
  pub late : synced ≤ number
  pub made : number ≤ end_of run
  pub small : number ≤ LAST_NUMBER
  pub cells-are : cells ≡ cells_at run number
  pub fits : FitsImage run.geometry cells

-- these are life and lists as they were after the record `number`, whose cells are all of the store's pages, and an
-- image has room for them
pub record IsStartChunk (run : Run) (synced number : ℕ) (life : Life) (lists : Pending) : Type 0 where
  pub late : synced ≤ number
  pub made : number ≤ end_of run
  pub small : number ≤ LAST_NUMBER
  pub life-is : life ≡ (cells_at run number).life
  pub lists-are : lists ≡ (cells_at run number).pending
  pub inside : AreInside run.geometry.pages (cells_at run number)
  pub fits : FitsImage run.geometry (record { rows = map.empty; entries = map.empty; pending = lists; life = life })

-- these are the rows of the image's next page as they were after the record `number`
pub record IsPageChunk (run : Run) (image : NewImage) (number page : ℕ) (rows : Table) : Type 0 where
  pub next : (count : ℕ) × (highest : Option Pair) × (life : Life)
      × (image.stage ≡ stage.Partly page count highest life)
  pub below : page < run.geometry.pages
  pub later : image.number ≤ number
  pub made : number ≤ end_of run
  pub small : number ≤ LAST_NUMBER
  pub rows-are : ArePageRows (cells_at run number) page rows
  pub slots : (q : Place) (r : Row) → map.get rows q ≡ Some r → q.slot < SLOTS_PER_PAGE

-- these are the image's next entries, behind all pages, as they were after the record `number`, in order: as many as a
-- chunk takes, or all that are left
pub record IsEntriesChunk (run : Run) (image : NewImage) (number : ℕ) (entries : List (Pair × Mark)) : Type 0 where
  pub more : Index
  pub count : ℕ
  pub above : Option Pair
  pub life : Life
  pub next : image.stage ≡ stage.Partly run.geometry.pages count above life
  pub later : image.number ≤ number
  pub made : number ≤ end_of run
  pub small : number ≤ LAST_NUMBER
  pub listed : map.entries more ≡ entries
  pub most : length entries ≤ CHUNK_ENTRIES
  pub full : (last : Pair × Mark) → slice_get entries (CHUNK_ENTRIES - 1) ≡ Some last
      → AreNextEntries (cells_at run number) above (Some last.0) more
  pub rest : slice_get entries (CHUNK_ENTRIES - 1) ≡ None → AreLastEntries (cells_at run number) above more
  pub inside : (i : ℕ) (e : Pair × Mark) → slice_get entries i ≡ Some e → e.0.rid.page < run.geometry.pages

-- What may be taken: at any time a whole image or the start of one; of the image under way its next piece. Where none
-- is under way nothing is asked of other pieces, which are not taken.
abbrev pub IsChunk : {A D M : Type 0} → Run → Writer D M → (number : ℕ) → Piece A → Type 0
IsChunk run w number (Whole cells) = IsWholeChunk run w.synced number (cells_of cells)
IsChunk run w number (Start life lists) = IsStartChunk run w.synced number life lists
IsChunk run w number (Page page rows) = (image : NewImage) → w.image ≡ Some image
    → IsPageChunk run image number page rows
IsChunk run w number (Entries entries) = (image : NewImage) → w.image ≡ Some image
    → IsEntriesChunk run image number entries.items

-- an image is begun at the record `number`, at this stage, and its log is empty
abbrev pub HasBegun : ℕ → Stage → NewImage → Type 0
HasBegun number there image = (image.base ≡ number) × (image.number ≡ number) × (image.stage ≡ there)
    × (image.log.open_slots ≡ 0)

-- how much there is of an image behind so many pages and entries, with these entries: all of it where they are fewer
-- than a chunk takes
abbrev pub stage_behind : (pages count : ℕ) → Life → List (Pair × Mark) → Stage
stage_behind pages count life entries = option_map_or (λ last.
    stage.Partly pages (count + length entries) (Some last.0) life) (slice_get entries (CHUNK_ENTRIES - 1)) stage.Whole

-- what the image is with these entries of the record `number`
abbrev pub HaveEntries : {D M : Type 0} → ℕ → List (Pair × Mark) → Writer D M → NewImage → Type 0
HaveEntries number entries old new = (image : NewImage) × (pages count : ℕ) × (above : Option Pair) × (life : Life)
    × (old.image ≡ Some image) × (image.stage ≡ stage.Partly pages count above life)
    × (new ≡ record image { number = number; stage = stage_behind pages count life entries })

-- and what it is with the rows of this page
abbrev pub HasRows : {D M : Type 0} → ℕ → (page : ℕ) → Writer D M → NewImage → Type 0
HasRows number page old new = (image : NewImage) × (count : ℕ) × (highest : Option Pair) × (life : Life)
    × (old.image ≡ Some image) × (image.stage ≡ stage.Partly page count highest life)
    × (new ≡ record image { number = number; stage = stage.Partly (page + 1) count highest life })

-- what the image is with a piece of the record `number`
abbrev pub HasPiece : {A D M : Type 0} → ℕ → Piece A → Writer D M → NewImage → Type 0
HasPiece number (Whole cells) old new = HasBegun number stage.Whole new
HasPiece number (Start life lists) old new = HasBegun number (stage.Partly 0 0 None life) new
HasPiece number (Page page rows) old new = HasRows number page old new
HasPiece number (Entries entries) old new = HaveEntries number entries.items old new

-- this is the image under way, and but for the device and what is known of pages all else is as it was
abbrev pub HasKept : {D M : Type 0} → NewImage → Writer D M → Writer D M → Type 0
HasKept image old new = (new.image ≡ Some image) × (new.halves ≡ old.halves) × (new.log ≡ old.log)
    × (new.waiting ≡ old.waiting) × (new.synced ≡ old.synced) × (new.failed ≡ old.failed)

-- the image's entries with so many more pass the geometry's
abbrev pub IsPast : {D M : Type 0} → Writer D M → (more : ℕ) → Type 0
IsPast w more = (image : NewImage) × (pages count : ℕ) × (highest : Option Pair) × (life : Life)
    × (w.image ≡ Some image) × (image.stage ≡ stage.Partly pages count highest life)
    × (w.halves.geometry.entries < count + more)

-- Why an image is to be copied from its start: every slot of the current log is open; or it was given up, and there is
-- none; or its entries would pass the geometry's. A whole image is taken always.
abbrev pub MustStartAgain : {A D M : Type 0} → Piece A → Writer D M → Type 0
MustStartAgain (Whole cells) w = ⊥
MustStartAgain (Start life lists) w = IsLogFull w
MustStartAgain (Page page rows) w = (w.image ≡ None) ⊎ IsLogFull w
MustStartAgain (Entries entries) w = (w.image ≡ None) ⊎ (IsLogFull w ⊎ IsPast w (length entries.items))

-- The piece is in the image, whose copying goes on behind it. But for the device and what is known of pages all else is
-- as it was.
abbrev pub HasTaken : {A D M : Type 0} → ℕ → Piece A → Writer D M → Writer D M → Type 0
HasTaken number piece old new = (image : NewImage) × HasKept image old new × HasPiece number piece old image
    × (new.copying ≡ Steps (place_behind old.halves.geometry.pages piece))

-- it was taken; or the image is given up, and all else is as it was
abbrev pub IsStepReply : {A D M : Type 0} → ℕ → Piece A → StepReply → Writer D M → Writer D M → Type 0
IsStepReply number piece Taken old new = (¬ MustStartAgain piece old) × HasTaken number piece old new
IsStepReply number piece StartAgain old new = (new ≡ without_image GivenUp old) × MustStartAgain piece old

-- The half of the image under way is known to have its next page as it is now, and the records up to its last step were
-- handed in. The device has not failed, and a slot of the current log is closed.
abbrev pub MayPass : {D M : Type 0} → Writer D M → Type 0
MayPass w = (w.failed ≡ false) × (¬ IsLogFull w)
    × ((image : NewImage) × (page count : ℕ) × (highest : Option Pair) × (life : Life) × (w.image ≡ Some image)
    × (image.stage ≡ stage.Partly page count highest life) × (image.number ≤ handed_of w)
    × IsKnown (changed_of w) (known_there w) page)

-- the image has its next page as the last record handed in left it, its copying goes on behind it, and all else is as
-- it was
abbrev pub HasPassed : {D M : Type 0} → Writer D M → Writer D M → Type 0
HasPassed old new = (image : NewImage) × (page count : ℕ) × (highest : Option Pair) × (life : Life)
    × (old.image ≡ Some image) × (image.stage ≡ stage.Partly page count highest life)
    × (page < old.halves.geometry.pages) × (next_place old.copying ≡ Some (place.Page page)) × (new ≡ record old {
      image = Some (record image { number = handed_of old; stage = stage.Partly (page + 1) count highest life });
      copying = Steps (page_behind old.halves.geometry.pages page);
    })

-- it is as if the page that comes next had been copied as it is after the record `handed`, and taken
abbrev pub IsAsTaken : {D M : Type 0} → Run → (handed : ℕ) → Writer D M → Writer D M → Type 0
IsAsTaken {D} {M} run handed old new = (page : ℕ) × (rows : Table) × (next_place old.copying ≡ Some (place.Page page))
    × IsChunk {A = M} run old handed (Page page rows) × IsStepReply {A = M} handed (Page page rows) Taken old new

-- what a flip wants: there is a whole image, every record up to its last step was handed in, and those above its base
-- are synced
abbrev pub CanFlip : {D M : Type 0} → ℕ → Writer D M → Type 0
CanFlip handed w = (image : NewImage) × (w.image ≡ Some image) × (image.stage ≡ stage.Whole) × (image.number ≤ handed)
    × (image.number ≤ reach image w.synced)

-- The image's half is current, and its log is the log. The records up to the new last synced one wait no more, and no
-- image is copied.
pub record HasFlipped {D M : Type 0} (old new : Writer D M) : Type 0 where
  pub halves-are : new.halves ≡ record { geometry = old.halves.geometry; current = other old.halves.current }
  pub log-is : (image : NewImage) → old.image ≡ Some image → new.log ≡ image.log
  pub waiting-are : new.waiting ≡ drop (new.synced - old.synced) old.waiting
  pub copying-is : new.copying ≡ Idle

-- the image is current, or there is none that can be
abbrev pub IsFlipReply : {D M : Type 0} → ℕ → FlipReply → Writer D M → Writer D M → Type 0
IsFlipReply handed (Flipped n) old new = (n ≡ new.synced) × (old.synced ≤ n) × CanFlip handed old
    × ((image : NewImage) → old.image ≡ Some image → n ≡ reach image old.synced) × (new.image ≡ None)
    × HasFlipped old new
IsFlipReply handed Behind old new = (new ≡ old) × (¬ CanFlip handed old)

-- the device failed, now or earlier, and is left alone from then on
abbrev pub HasFailed : {D M : Type 0} → (D → ℕ) → Error → Writer D M → Writer D M → Type 0
HasFailed failures e old new = (e ≡ DeviceFailed) × (new.failed ≡ true)
    × (old.failed ≡ false → Rises (failures old.device) (failures new.device)) × (old.failed ≡ true → new ≡ old)
