-- What a store is opened with, and what its threads begin with.
use Rattle.std.specs.FinMap.{len}
use Rattle.std.specs.Prelude.{[], false, None, ℕ, ◌∷◌, ◌≡◌, ◌≤◌, ◌<◌, ◌⊎◌}
use Rattle.atomic_table.specs.Seated.{TableId}
use Rattle.record_values.specs.GeometryValue.{GeometryValue}
use Rattle.record_values.specs.declared.error.Error.{Error}
use Rattle.record_values.specs.declared.error.Error.TheVariants.{DeviceFailed, NoMemory, TooManyTxns, TxnsActive}
use Rattle.model.specs.Given.{Given, opening_cells}
use Rattle.core_model.specs.Histories.{CanOpen, Opened}
use Rattle.nsf_core.specs.Loading.{IsQuiet}
use Rattle.core_parts.specs.Opening.{opened_of}
use Rattle.sector_device.specs.Disk.{Disk, CrashState, IsCrashState, IsSynced}
use Rattle.sector_device.specs.DevicePast.{DevicePast, LeavesOnly}
use Rattle.store_reader.specs.Contents.{Gives}
use Rattle.store_writer.specs.declared.writer.Writer.{Writer}
use Rattle.store_writer.specs.Parts.{copying_of, halves_of, has_failed, image_of, log_of, synced_of}
use Rattle.store_writer.specs.Writer.{IsWriter, WritesOnly, opened_run}
use Rattle.store_writer.specs.declared.copying.Copying.TheVariants.{GivenUp, Idle}
use Rattle.threads_flusher.specs.Part.{FlushValue, IsMarkOf, publication_of}
use Rattle.locked_core.specs.Names.{Names}
use Rattle.restart.specs.Parts.{core_of, device_of, horizon_of, writer_of}
use Rattle.restart.specs.Reopening.{IsNotOpened, IsTurned, IsUnwritten}
use Rattle.restart.specs.Settling.{IsNotWritten}
use Rattle.restart.specs.Store.{InCopy, IsAt, Past, Survives, over}
use Rattle.restart.specs.declared.parts.EngineParts.{EngineParts}
use Rattle.threads_lifetime.specs.declared.refusal.OpenError.{OpenError}
use Rattle.threads_lifetime.specs.declared.refusal.OpenError.TheVariants.{NoThread, Refused, Unsound}

-- A store on a device with this content opens with this: with what the content gives, in a store of its geometry.
pub record Opens (image : CrashState) (o : Opened) : Type 0 where
  pub geometry : GeometryValue
  pub given : Given
  pub gives : Gives image geometry given
  pub opened : o ≡ over geometry given

-- A store on a device with this content opens, and what it opens with is sound: a core may begin with it.
pub record OpensSoundly (image : CrashState) : Type 0 where
  pub opened : Opened
  pub opens : Opens image opened
  pub sound : CanOpen opened

-- that it does, and not how
abbrev pub IsOpenable : CrashState → Type 0
IsOpenable image = ∥ OpensSoundly image ∥₁

-- whatever a crash leaves of the disk may be opened
abbrev pub StaysOpenable : Disk → Type 0
StaysOpenable disk = (image : CrashState) → IsCrashState disk image → IsOpenable image

-- A flusher's part that has popped nothing: all that was opened is synced, and is published so, and the device has not
-- failed. No slot of the log is open, and no image is under way, nor is a whole one to be taken. It was published once,
-- as it is, with a mark of the moment that it is, or with 0.
pub record IsNewFlusher {D A : Type 0} (past_of : D → DevicePast) (marks : ℕ → ℕ → Type 0) (board : TableId)
    (o : Opened) (f : FlushValue D A) : Type 0 where
  pub handed : f.handed ≡ []
  pub held : f.held ≡ []
  pub mark : ℕ
  pub marked : IsMarkOf marks mark (publication_of past_of f.writer).moment
  pub published : f.published ≡ record {
    board = board;
    horizon = o.given.last;
    failed = false;
    stopped = false;
    notes = record { horizon = o.given.last; mark = mark } ∷ [];
  }
  pub synced : synced_of f.writer ≡ o.given.last
  pub sound : has_failed f.writer ≡ false
  pub empty : (log_of f.writer).open_slots ≡ 0
  pub idle : image_of f.writer ≡ None
  pub copying : copying_of f.writer ≡ Idle
  pub publications : f.publications ≡ publication_of past_of f.writer ∷ []

-- A writer that has got no record yet, over what was opened. No slot of the log is open, and no image is under way, nor
-- is a whole one to be taken.
pub record IsNewWriter {D A : Type 0} (past_of : D → DevicePast) (o : Opened) (w : Writer D A) : Type 0 where
  pub writer : IsWriter past_of (opened_run (halves_of w) o.given.last (opening_cells o.given)) o.given.last w
  pub pages : (halves_of w).geometry.pages ≡ o.pages
  pub places : (halves_of w).geometry.entries ≡ o.places
  pub fits : len o.given.entries ≤ o.places
  pub synced : synced_of w ≡ o.given.last
  pub sound : has_failed w ≡ false
  pub empty : (log_of w).open_slots ≡ 0
  pub idle : image_of w ≡ None
  pub copying : copying_of w ≡ Idle

-- A store that is open, before its threads have it: what its seats, its queue, their table and its board are called,
-- with what it was opened with; and its device.
pub record StoreValue (D : Type 0) : Type 0 where
  pub site : Names
  pub device : D

-- So many seats, 16 at most, are open over what the device gave, which is sound, and was written back as a restart does
-- it; no call of the device failed.
pub record IsOpenedOver {D : Type 0} (past_of : D → DevicePast) (failures : D
    → ℕ) (before : D) (count : ℕ) (s : StoreValue D) : Type 0 where
  pub most : count ≤ 16
  pub seats : s.site.seats ≡ count
  pub opened : Opens (past_of before).disk.content s.site.opened
  pub sound : CanOpen s.site.opened
  pub device : IsTurned past_of before s.device
  pub synced : IsSynced (past_of s.device).disk
  pub quiet : failures s.device ≡ failures before

-- The store opens, but no core may begin with what it opens with. It was written back as a restart does it; no call of
-- the device failed, and all of the device is synced.
pub record IsUnsound {D : Type 0} (past_of : D → DevicePast) (failures : D → ℕ) (before after : D) : Type 0 where
  pub opened : Opened
  pub opens : Opens (past_of before).disk.content opened
  pub unsound : CanOpen opened → ⊥
  pub device : IsTurned past_of before after
  pub synced : IsSynced (past_of after).disk
  pub quiet : failures after ≡ failures before

-- The store opens, and what it opens with is sound; but the device is given back behind that. It was written back as a
-- restart does it; no call of the device failed, and all of the device is synced.
pub record IsGivenBack {D : Type 0} (past_of : D → DevicePast) (failures : D → ℕ) (before after : D) : Type 0 where
  pub opened : Opened
  pub opens : Opens (past_of before).disk.content opened
  pub sound : CanOpen opened
  pub device : IsTurned past_of before after
  pub synced : IsSynced (past_of after).disk
  pub quiet : failures after ≡ failures before

-- Why no store was opened for threads, which were to have so many seats: there are more than 16, and the device is as
-- it was; or it is as of a restart; or what it opens with is sound, and there was no memory behind the restart; or what
-- it opens with is not sound.
abbrev pub IsNotShared : {D : Type 0} → (D → DevicePast) → (D → ℕ) → D → (count : ℕ) → D → OpenError → Type 0
IsNotShared past_of failures before count after (Refused e) = IsNotOpened past_of failures before after e
    ⊎ (((e ≡ NoMemory) × IsGivenBack past_of failures before after)
    ⊎ ((e ≡ TooManyTxns) × (16 < count) × (after ≡ before)))
IsNotShared past_of failures before count after Unsound = IsUnsound past_of failures before after
IsNotShared past_of failures before count after NoThread = ⊥

-- Nothing is told of what was to be opened: there was no memory, or the device failed.
abbrev pub WasHindered : OpenError → Type 0
WasHindered (Refused e) = (e ≡ NoMemory) ⊎ (e ≡ DeviceFailed)
WasHindered Unsound = ⊥
WasHindered NoThread = ⊥

-- So it was before anything was written: there was no memory to read the device, or it failed.
abbrev pub WasUnread : {D : Type 0} → (D → DevicePast) → D → D → OpenError → Type 0
WasUnread past_of before after (Refused e) = ((e ≡ NoMemory) × IsUnwritten past_of before after) ⊎ (e ≡ DeviceFailed)
WasUnread past_of before after Unsound = ⊥
WasUnread past_of before after NoThread = ⊥

-- So many seats, 16 at most, are open over what the engine held, with no transaction active: the same rows and entries,
-- the index as far as it was, after the same last record. It is sound, and all of it is synced: a crash of the device
-- leaves what opens with it. A crash at any moment of the call leaves a prefix of whatever run the engine served, with
-- every record up to its horizon, and so with everything acknowledged; no call of the device failed. No sector was
-- written but those that a copy writes.
pub record IsOpenedFrom {D A : Type 0} (past_of : D → DevicePast) (failures : D
    → ℕ) (engine : EngineParts D A) (count : ℕ) (s : StoreValue D) : Type 0 where
  pub most : count ≤ 16
  pub seats : s.site.seats ≡ count
  pub quiet : IsQuiet (core_of engine)
  pub opened : s.site.opened ≡ opened_of (core_of engine)
  pub sound : CanOpen s.site.opened
  pub stays : (image : CrashState) → IsCrashState (past_of s.device).disk image → Opens image s.site.opened
  pub survives : (past : Past A) → IsAt past_of past engine
      → LeavesOnly (past_of (device_of engine)) (past_of s.device) (Survives past (horizon_of engine))
  pub well : failures s.device ≡ failures (device_of engine)
  pub around : WritesOnly past_of (InCopy GivenUp (halves_of (writer_of engine))) (device_of engine) s.device

-- A transaction is active, and the engine is as it was. Or none is, and what the engine holds is sound: then there was
-- no memory, and it is as it was; or what it holds could not be written, and its run goes on.
abbrev pub IsRefusedFrom : {D A : Type 0} → (D → DevicePast) → (D → ℕ) → EngineParts D A → EngineParts D A → Error
    → Type 0
IsRefusedFrom past_of failures old new e =
    ((e ≡ TxnsActive) × (IsQuiet (core_of old) → ⊥) × (new ≡ old))
    ⊎ (IsQuiet (core_of old) × CanOpen (opened_of (core_of old))
    × (((e ≡ NoMemory) × (new ≡ old)) ⊎ IsNotWritten past_of failures old new e))

-- why no engine was shared by so many seats; it is given back
abbrev pub IsNotOpenedFrom : {D A : Type 0} → (D → DevicePast) → (D → ℕ) → EngineParts D A → (count : ℕ)
    → EngineParts D A
    → OpenError
    → Type 0
IsNotOpenedFrom past_of failures old count new (Refused e) = IsRefusedFrom past_of failures old new e
    ⊎ ((e ≡ TooManyTxns) × (16 < count) × (new ≡ old))
IsNotOpenedFrom past_of failures old count new Unsound = IsQuiet (core_of old) × (CanOpen (opened_of (core_of old)) → ⊥)
    × (new ≡ old)
IsNotOpenedFrom past_of failures old count new NoThread = ⊥
