-- How the flusher's part goes on while every record is written out (no public clause cites these).
use Rattle.std.specs.Prelude.{◌≡◌, ◌≤◌, ◌++◌, ℕ, List, false, true}
use Rattle.records.specs.RecordValue.{RecordValue}
use Rattle.core_model.specs.Histories.{Opened}
use Rattle.sector_device.specs.DevicePast.{DevicePast, LeavesOnly, Rises}
use Rattle.store_writer.specs.Parts.{device_of, halves_of, has_failed, synced_of}
use Rattle.threads_flusher.specs.Part.{FlushValue, GivesBeginning, HasGot}

-- The writer has got some records more. Nothing else of it changed, and nothing was published.
pub record HasTaken {D A : Type 0} (old new : FlushValue D A) : Type 0 where
  pub more : List RecordValue
  pub handed : new.handed ≡ old.handed ++ more
  pub got : HasGot more old.writer new.writer
  pub published : new.published ≡ old.published

-- The writer may have got some records more, and written some. The store is the same; a crash at any moment since
-- leaves what some of the records that it has got now make of what was opened, the first ones, with all that were
-- synced at first; and if the device failed meanwhile, it counted that, and else no failure. One that had failed stays
-- so.
pub record WritesOn {D A : Type 0} (past_of : D → DevicePast) (failures : D
    → ℕ) (o : Opened) (old new : FlushValue D A) : Type 0 where
  pub more : List RecordValue
  pub handed : new.handed ≡ old.handed ++ more
  pub geometry : (halves_of new.writer).geometry ≡ (halves_of old.writer).geometry
  pub rises : synced_of old.writer ≤ synced_of new.writer
  pub images : LeavesOnly (past_of (device_of old.writer)) (past_of (device_of new.writer))
      (GivesBeginning o (halves_of new.writer).geometry new.handed (synced_of old.writer))
  pub later : failures (device_of old.writer) ≤ failures (device_of new.writer)
  pub counted : has_failed new.writer ≡ true → has_failed old.writer ≡ false
      → Rises (failures (device_of old.writer)) (failures (device_of new.writer))
  pub stays : has_failed new.writer ≡ false → has_failed old.writer ≡ false
  pub quiet : has_failed new.writer ≡ false → failures (device_of new.writer) ≡ failures (device_of old.writer)
