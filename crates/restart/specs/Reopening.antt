-- What a restart makes of what a device holds.
use Rattle.std.specs.Prelude.{◌≡◌, ◌≢◌, ◌⊎◌, ℕ, ◌≤◌, false, [], None}
use Rattle.record_values.specs.GeometryValue.{GeometryValue}
use Rattle.record_values.specs.declared.error.Error.{Error}
use Rattle.record_values.specs.declared.error.Error.TheVariants.{DeviceFailed}
use Rattle.model.specs.Cells.{Cells}
use Rattle.model.specs.Given.{Given, IsBeginning, opening_cells}
use Rattle.sector_device.specs.Disk.{CrashState, IsCrashState, IsSynced}
use Rattle.sector_device.specs.DevicePast.{DevicePast, LeavesOnly}
use Rattle.gate_log.specs.Area.{Log, Refuses}
use Rattle.flip_image.specs.Layout.{HalvesValue, other}
use Rattle.flip_image.specs.Store.{IsStore}
use Rattle.store_reader.specs.Contents.{Gives, IsUnreadable}
use Rattle.store_opener.specs.Reopening.{ReopeningLeaves, IsWrittenBack}
use Rattle.core_copies.specs.Loaded.{holding}
use Rattle.core_model.specs.Histories.{CanOpen, opened}
use Rattle.core_model.specs.Events.{standing_at}
use Rattle.core_model.specs.Served.{IsMadeOf}
use Rattle.core_parts.specs.View.{CoreValue, IsState}
use Rattle.store_writer.specs.Writer.{IsOpenedAt, IsWriter, opened_run}
use Rattle.restart.specs.declared.parts.EngineParts.{EngineParts}
use Rattle.store_writer.specs.Parts.{halves_of, image_of}
use Rattle.store_writer.specs.declared.copying.Copying.TheVariants.{Idle}
use Rattle.restart.specs.Parts.{copying_of, core_of, device_of, log_of, horizon_of, has_failed, writer_of}
use Rattle.restart.specs.Building.{HasCome}
use Rattle.restart.specs.History.{core_calls}
use Rattle.restart.specs.Store.{Past, items_told, last_made, over, Survives, IsAt}

-- a run that has not begun, over what a store gives
abbrev pub opening : {M : Type 0} → GeometryValue → Given → Past M
opening geometry given = record { geometry = geometry; given = given; events = []; replies = [] }

-- What the device gives was written back into the half of its store that wasn't current, and that half made current, or
-- part of this was done: a crash at any moment leaves what one before could, or what gives the same as the device did;
-- and so does the device, now.
pub record IsTurned {D : Type 0} (past_of : D → DevicePast) (before after : D) : Type 0 where
  pub images : LeavesOnly (past_of before) (past_of after) (ReopeningLeaves (past_of before).disk)
  pub now : ((past_of after).disk.content ≡ (past_of before).disk.content)
      ⊎ IsWrittenBack (past_of before).disk.content (past_of after).disk.content

-- Nothing was written: the device holds what it held, and a crash at any moment leaves what one before could.
pub record IsUnwritten {D : Type 0} (past_of : D → DevicePast) (before after : D) : Type 0 where
  pub content : (past_of after).disk.content ≡ (past_of before).disk.content
  pub images : LeavesOnly (past_of before) (past_of after) (IsCrashState (past_of before).disk)

-- The engine holds what its device gave, and no transaction. Where what was given is something that a core may begin
-- with, a run begins over it; and the core has come to where it is, so that a build that goes on to its end leaves the
-- index whole.
pub record IsOpened {D M : Type 0} (past_of : D → DevicePast) (before : D) (engine : EngineParts D M) : Type 0 where
  pub geometry : GeometryValue
  pub given : Given
  pub gives : Gives (past_of before).disk.content geometry given
  pub core : core_of engine ≡ holding geometry given
  pub horizon : horizon_of engine ≡ given.last
  pub sound : has_failed engine ≡ false
  pub device : IsTurned past_of before (device_of engine)
  pub synced : IsSynced (past_of (device_of engine)).disk
  pub begins : CanOpen (over geometry given) → IsAt past_of (opening geometry given) engine
  pub come : CanOpen (over geometry given) → HasCome (core_of engine)

-- the half that wasn't current now is, its log is empty, and no image is under way, nor is a whole one to be taken
abbrev pub IsEmptied : {D M : Type 0} → (D → DevicePast) → D → EngineParts D M → Type 0
IsEmptied past_of before engine = IsStore (halves_of (writer_of engine)).geometry
    (other (halves_of (writer_of engine)).current) (past_of before).disk.content × ((log_of engine).open_slots ≡ 0)
    × (image_of (writer_of engine) ≡ None) × (copying_of engine ≡ Idle)

-- Why nothing was opened: there was no memory, the device failed in the call, or it gives nothing. With any answer but
-- `DeviceFailed` no call of the device failed, nothing was written, and the device is synced. The count of failures
-- doesn't fall.
pub record IsNotOpened {D : Type 0} (past_of : D → DevicePast) (failures : D
    → ℕ) (before after : D) (e : Error) : Type 0 where
  pub device : IsTurned past_of before after
  pub why : Refuses (failures before) (failures after) e ⊎ IsUnreadable (past_of before).disk.content e
  pub told : e ≢ DeviceFailed → failures after ≡ failures before
  pub unwritten : e ≢ DeviceFailed → IsUnwritten past_of before after
  pub synced : e ≢ DeviceFailed → IsSynced (past_of after).disk
  pub later : failures before ≤ failures after

-- The engine holds a prefix of the run's history, which has every item up to the floor and no record past the last that
-- the run made, and no transaction: just what the records that were made with the run's replies, up to there, make of
-- what the run began with. And what it holds is something that a core may begin with: as far as the index is built, it
-- shows the pair of each row, and no other. A run begins over it; and the core has come to where it is, so that a build
-- that goes on to its end leaves the index whole.
pub record Recovers {D M : Type 0} (past_of : D → DevicePast) (past : Past M) (floor : ℕ)
    (engine : EngineParts D M) : Type 0 where
  pub given : Given
  pub beginning : IsBeginning past.given (items_told past) floor given
  pub within : given.last ≤ last_made past
  pub records : IsMadeOf (over past.geometry past.given) (core_calls past.events past.replies) given
  pub core : core_of engine ≡ holding past.geometry given
  pub opens : CanOpen (over past.geometry given)
  pub begins : IsAt past_of (opening past.geometry given) engine
  pub come : HasCome (core_of engine)

-- Whatever run left the device so, the engine holds a prefix of its history, with all up to the floor.
abbrev pub RecoversAnyRun : {D M : Type 0} → (D → DevicePast) → D → EngineParts D M → Type 0
RecoversAnyRun {D} {M} past_of before engine = (past : Past M) (floor : ℕ)
    → Survives past floor (past_of before).disk.content → Recovers past_of past floor engine

-- What a run left is refused only for want of memory, or where the device failed in the call.
abbrev pub RefusesNoRun : (M : Type 0) → {D : Type 0} → (D → DevicePast) → (D → ℕ) → D → D → Error → Type 0
RefusesNoRun M past_of failures before after e = (past : Past M) (floor : ℕ)
    → Survives past floor (past_of before).disk.content → Refuses (failures before) (failures after) e

-- Whatever run left a synced device so, with all up to the floor, a crash at any moment since leaves such a prefix too.
abbrev pub StaysOfAnyRun : (M : Type 0) → {D : Type 0} → (D → DevicePast) → D → D → Type 0
StaysOfAnyRun M past_of before after = IsSynced (past_of before).disk → (past : Past M) (floor : ℕ)
    → Survives past floor (past_of before).disk.content
    → LeavesOnly (past_of before) (past_of after) (Survives past floor)

-- The engine over this device, with these halves and this log, has made no record, and the writer has all that the core
-- began with. (No public clause cites this.)
pub record BeginsOver {D M : Type 0} (past_of : D → DevicePast) (device : D) (halves : HalvesValue) (log : Log)
    (engine : EngineParts D M) : Type 0 where
  pub device-is : device_of engine ≡ device
  pub halves-are : halves_of (writer_of engine) ≡ halves
  pub log-is : log_of engine ≡ log
  pub geometry : engine.geometry ≡ halves.geometry
  pub none-handed : engine.outgoing.items ≡ []
  pub idle : copying_of engine ≡ Idle
  pub no-image : image_of (writer_of engine) ≡ None
  pub synced : horizon_of engine ≡ (core_of engine).last
  pub sound : has_failed engine ≡ false
  pub writes : (cells : Cells) → IsOpenedAt (past_of device) halves log (core_of engine).last cells
      → IsWriter past_of (opened_run halves (core_of engine).last cells) (core_of engine).last (writer_of engine)

-- The core of what a store gives, whose half with an empty log was made current. (No public clause cites this.)
pub record IsCoreOf (before : CrashState) (after : DevicePast) (halves : HalvesValue) (log : Log)
    (core : CoreValue) : Type 0 where
  pub given : Given
  pub gives : Gives before halves.geometry given
  pub holds : core ≡ holding halves.geometry given
  pub shown : IsState core (opened (over halves.geometry given)) (standing_at given.last)
  pub opened-at : IsOpenedAt after halves log given.last (opening_cells given)
