-- What handing records to the writer, and what the writer does with them, leaves of an engine. No public clause cites
-- this.
use Rattle.std.specs.Prelude.{◌≡◌, ◌≤◌, ◌<◌, ◌-◌, ℕ, [], None, length}
use Rattle.core_model.specs.States.{State}
use Rattle.core_model.specs.Events.{Standing}
use Rattle.store_image_model.specs.Run.{Run, end_of}
use Rattle.sector_device.specs.Disk.{CrashState}
use Rattle.sector_device.specs.DevicePast.{DevicePast, LeavesOnly}
use Rattle.store_writer.specs.Contents.{LeftBy}
use Rattle.store_writer.specs.Image.{BecomesImage}
use Rattle.store_writer.specs.Parts.{halves_of, log_of, has_failed, image_of}
use Rattle.store_writer.specs.Writer.{IsFlushReply}
use Rattle.store_writer.specs.declared.copying.Copying.TheVariants.{Steps}
use Rattle.store_writer.specs.declared.writer.FlushReply.TheVariants.{Flushed}
use Rattle.restart.specs.declared.parts.EngineParts.{EngineParts}
use Rattle.restart.specs.Copies.{Succeeds, copies_left}
use Rattle.restart.specs.Groups.{MayFlip}
use Rattle.restart.specs.Parts.{copying_of, core_of, device_of, horizon_of, unhanded, unwritten, writer_of}
use Rattle.restart.specs.Store.{StandsAt}

-- The core is in the state that it was in, and the writer may have more of the records made. A crash at any moment
-- leaves what some of those that the writer has made, with all that were synced at first.
pub record MovesOn {D M : Type 0} (past_of : D → DevicePast) (old new : EngineParts D M) : Type 0 where
  pub stands : (run : Run) (handed : ℕ) (s : State) (k : Standing) → StandsAt past_of run handed s k old → (later : ℕ)
      × (handed ≤ later) × StandsAt past_of run later s k new
  pub images : (run : Run) (handed : ℕ) (s : State) (k : Standing) → StandsAt past_of run handed s k old
      → LeavesOnly (past_of (device_of old)) (past_of (device_of new)) (λ (image : CrashState). (later : ℕ)
      × (later ≤ end_of run) × LeftBy run (horizon_of old) later image)
  pub grows : horizon_of old ≤ horizon_of new
  pub core : core_of new ≡ record (core_of old) { outbox = (core_of new).outbox }

-- The writer has some more of the records that were made, and nothing else changed.
pub record HandsOver {D M : Type 0} (past_of : D → DevicePast) (old new : EngineParts D M) : Type 0 where
  pub moves : MovesOn past_of old new
  pub unwritten-are : unwritten new ≡ unwritten old
  pub device : device_of new ≡ device_of old
  pub halves : halves_of (writer_of new) ≡ halves_of (writer_of old)
  pub log : log_of (writer_of new) ≡ log_of (writer_of old)
  pub horizon : horizon_of new ≡ horizon_of old
  pub failed : has_failed (writer_of new) ≡ has_failed (writer_of old)
  pub image : image_of (writer_of new) ≡ image_of (writer_of old)
  pub geometry : new.geometry ≡ old.geometry
  pub copying : copying_of new ≡ copying_of old

-- a group more is synced, and a whole image is yet to be made current
pub record FlushesFirst {D M : Type 0} (failures : D → ℕ) (old new : EngineParts D M) : Type 0 where
  pub well : Succeeds failures old new
  pub further : horizon_of old < horizon_of new
  pub fewer : length (unwritten new) < length (unwritten old)
  pub all : unhanded new ≡ []
  pub copying : copying_of new ≡ Steps None
  pub could-not : ¬ MayFlip (writer_of old)
  pub flushed : (number : ℕ) × (IsFlushReply (Flushed number) (writer_of old) (writer_of new)
      × BecomesImage (halves_of (writer_of old)).geometry.slots (horizon_of old) (number - horizon_of old)
      (image_of (writer_of old)) (image_of (writer_of new)))
  pub halves : halves_of (writer_of new) ≡ halves_of (writer_of old)
  pub left : copies_left new ≤ copies_left old
