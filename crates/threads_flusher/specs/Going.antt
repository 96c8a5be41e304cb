-- How the flusher's part goes on.
use Rattle.std.specs.Prelude.{◌≡◌, ◌≤◌, ◌++◌, ℕ, List, false, true}
use Rattle.std.specs.List.{All}
use Rattle.records.specs.RecordValue.{RecordValue}
use Rattle.core_model.specs.Histories.{Opened}
use Rattle.sector_device.specs.DevicePast.{DevicePast, LeavesOnly, Rises}
use Rattle.store_writer.specs.Parts.{copying_of, device_of, halves_of, has_failed, synced_of, without_image}
use Rattle.store_writer.specs.declared.copying.Copying.{Copying}
use Rattle.threads_flusher.specs.Part.{FlushValue, GivesBeginning, HasGot, Publication, popped_by}

-- Some records more were popped, and the writer has got some more of those that were popped. Nothing else of it
-- changed, and nothing was published; it may have looked whether all are asked to stop.
pub record TakesIn {D A : Type 0} (old new : FlushValue D A) : Type 0 where
  pub popped : List RecordValue
  pub popped-are : popped_by new ≡ popped_by old ++ popped
  pub more : List RecordValue
  pub handed : new.handed ≡ old.handed ++ more
  pub got : HasGot more old.writer new.writer
  pub copying : copying_of new.writer ≡ copying_of old.writer
  pub published : new.published ≡ record old.published { stopped = new.published.stopped }
  pub publications : new.publications ≡ old.publications

-- No image is under way, its copying is here, and all else is as it was: nothing was written.
abbrev pub LeavesImage : {D A : Type 0} → Copying → FlushValue D A → FlushValue D A → Type 0
LeavesImage copying old new = new ≡ record old { writer = without_image copying old.writer }

-- It has gone on, by as many calls as there were: more records were popped and handed in, or as many, and none was
-- lost; no horizon went back, what was published before stays noted, and the store is the same. What was published
-- since was published at no earlier moment. A crash at any moment since leaves what some of the records that the writer
-- has got now make of what was opened, the first ones, with all that were synced at first. One that had failed stays so
-- (of the failures that the device counts behind that, `later` alone tells, and no more than that they are no fewer).
-- Another has failed if the device did meanwhile, which was counted; and else no failure was.
pub record GoesOn {D A : Type 0} (past_of : D → DevicePast) (failures : D
    → ℕ) (o : Opened) (old new : FlushValue D A) : Type 0 where
  pub popped : List RecordValue
  pub popped-are : popped_by new ≡ popped_by old ++ popped
  pub more : List RecordValue
  pub handed : new.handed ≡ old.handed ++ more
  pub since : List Publication
  pub publications : new.publications ≡ old.publications ++ since
  pub behind : All (λ (p : Publication). (past_of (device_of old.writer)).moment ≤ p.moment) since
  pub geometry : (halves_of new.writer).geometry ≡ (halves_of old.writer).geometry
  pub rises : synced_of old.writer ≤ synced_of new.writer
  pub horizon : old.published.horizon ≤ new.published.horizon
  pub images : LeavesOnly (past_of (device_of old.writer)) (past_of (device_of new.writer))
      (GivesBeginning o (halves_of new.writer).geometry new.handed (synced_of old.writer))
  pub later : failures (device_of old.writer) ≤ failures (device_of new.writer)
  pub counted : has_failed new.writer ≡ true → has_failed old.writer ≡ false
      → Rises (failures (device_of old.writer)) (failures (device_of new.writer))
  pub stays : has_failed new.writer ≡ false → has_failed old.writer ≡ false
  pub quiet : has_failed new.writer ≡ false → failures (device_of new.writer) ≡ failures (device_of old.writer)
