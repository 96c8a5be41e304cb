-- An engine that is left as a restart would leave it.
use Rattle.std.specs.FinMap.{len}
use Rattle.std.specs.Prelude.{◌≡◌, ◌≤◌, ℕ, false, None}
use Rattle.record_values.specs.GeometryValue.{GeometryValue}
use Rattle.record_values.specs.declared.error.Error.{Error}
use Rattle.model.specs.Given.{opening_cells}
use Rattle.core_model.specs.Events.{standing_at}
use Rattle.core_copies.specs.Loaded.{holding}
use Rattle.core_model.specs.Histories.{Opened, opened}
use Rattle.core_parts.specs.Opening.{opened_of}
use Rattle.core_parts.specs.View.{CoreValue, IsState}
use Rattle.sector_device.specs.Disk.{CrashState, IsCrashState}
use Rattle.sector_device.specs.DevicePast.{DevicePast, LeavesOnly}
use Rattle.store_reader.specs.Contents.{Gives}
use Rattle.store_writer.specs.Parts as parts
use Rattle.store_writer.specs.Parts.{copying_of, halves_of, image_of, log_of, synced_of, without_image}
use Rattle.store_writer.specs.Writer.{IsWriter, WritesOnly, opened_run}
use Rattle.store_writer.specs.declared.copying.Copying.TheVariants.{GivenUp, Idle}
use Rattle.store_writer.specs.declared.writer.Writer.{Writer}
use Rattle.restart.specs.declared.event.Event.TheVariants.{Copy}
use Rattle.restart.specs.declared.event.Reply.{Reply}
use Rattle.restart.specs.declared.event.Reply.TheVariants.{Refused}
use Rattle.restart.specs.declared.parts.EngineParts.{EngineParts}
use Rattle.restart.specs.Copies.{IsCopyAnswer}
use Rattle.restart.specs.Parts.{core_of, device_of, horizon_of, writer_of}
use Rattle.restart.specs.Store.{CopiesAround, InCopy, IsAt, Past, ServesOn, Survives}

-- A core over the rows, the entries, the index's life and the last record's number that another holds, as a restart
-- makes one: no transaction was begun in it, and it has built and cleaned nothing.
pub record IsFresh (old new : CoreValue) : Type 0 where
  pub geometry : GeometryValue
  pub made : new ≡ holding geometry (opened_of old).given
  pub same : opened_of new ≡ opened_of old
  pub stands : IsState new (opened (opened_of old)) (standing_at old.last)

-- A writer that has got no record since its store held this, all of which is synced: a crash of the device leaves what
-- gives it. No slot of the log is open, and no image is under way, nor is a whole one to be taken.
pub record IsSettled {D M : Type 0} (past_of : D → DevicePast) (o : Opened) (w : Writer D M) : Type 0 where
  pub writer : IsWriter past_of (opened_run (halves_of w) o.given.last (opening_cells o.given)) o.given.last w
  pub gives : (image : CrashState) → IsCrashState (past_of (parts.device_of w)).disk image
      → Gives image (halves_of w).geometry o.given
  pub pages : (halves_of w).geometry.pages ≡ o.pages
  pub places : (halves_of w).geometry.entries ≡ o.places
  pub fits : len o.given.entries ≤ o.places
  pub synced : synced_of w ≡ o.given.last
  pub sound : parts.has_failed w ≡ false
  pub empty : (log_of w).open_slots ≡ 0
  pub idle : image_of w ≡ None
  pub copying : copying_of w ≡ Idle

-- an image under way is given up, and a whole one is to be taken at once
abbrev pub giving_up : {D M : Type 0} → EngineParts D M → EngineParts D M
giving_up engine = record engine { writer = without_image GivenUp (writer_of engine) }

-- An image under way was given up, and the copy that takes a whole one at once had this reply, and wrote no sector but
-- those that a copy writes.
pub record CopiesAnew {D M : Type 0} (past_of : D → DevicePast) (failures : D
    → ℕ) (reply : Reply M) (old new : EngineParts D M) : Type 0 where
  pub answer : IsCopyAnswer failures reply (giving_up old) new
  pub runs : ServesOn past_of Copy reply old new
  pub around : CopiesAround past_of (giving_up old) new

-- All that the engine holds was written as a whole image, which is current: its records that weren't synced are in it.
-- No call of the device failed, and a crash at any moment leaves a prefix of whatever run the engine served, with every
-- record up to its horizon, and so with everything acknowledged. No sector was written but those that a copy writes.
pub record WritesWhole {D M : Type 0} (past_of : D → DevicePast) (failures : D
    → ℕ) (engine : EngineParts D M) (w : Writer D M) : Type 0 where
  pub settled : IsSettled past_of (opened_of (core_of engine)) w
  pub quiet : failures (parts.device_of w) ≡ failures (device_of engine)
  pub survives : (past : Past M) → IsAt past_of past engine
      → LeavesOnly (past_of (device_of engine)) (past_of (parts.device_of w)) (Survives past (horizon_of engine))
  pub around : WritesOnly past_of (InCopy GivenUp (halves_of (writer_of engine))) (device_of engine) (parts.device_of w)

-- there was no memory for it, or the device failed: the engine's run goes on, by a copy that was refused so
abbrev pub IsNotWritten : {D M : Type 0} → (D → DevicePast) → (D → ℕ) → EngineParts D M → EngineParts D M → Error
    → Type 0
IsNotWritten past_of failures old new e = CopiesAnew past_of failures (Refused e) old new
