-- Which replies a request may have, and what each leaves.
use Rattle.std.specs.Prelude.{◌≡◌, ◌≢◌, ◌⊎◌, ◌<◌, ◌≤◌, ◌+◌, ℕ, true, false, List, [], ◌∷◌, length, take, drop}
use Rattle.std.specs.Prelude.{Option, None, Some}
use Rattle.records.specs.RecordValue.{RecordValue}
use Rattle.record_values.specs.declared.error.Error.TheVariants.{NoMemory, DeviceFailed}
use Rattle.sector_device.specs.DevicePast.{Rises}
use Rattle.gate_log.specs.Area.{Log}
use Rattle.gate_log.specs.Group.{FitsGroup, spellings}
use Rattle.gate_log.specs.declared.group.TheConstants.{GROUP_MAX}
use Rattle.core_model.specs.Events as core
use Rattle.core_parts.specs.View as view
use Rattle.store_writer.specs.Image.{BecomesImage}
use Rattle.store_writer.specs.Parts.{halves_of, image_of}
use Rattle.store_writer.specs.Writer.{IsLogFull}
use Rattle.restart.specs.declared.event.Event.{Event}
use Rattle.restart.specs.declared.event.Event.TheVariants as event
use Rattle.restart.specs.declared.event.Reply.{Reply}
use Rattle.restart.specs.declared.event.Reply.TheVariants as reply
use Rattle.restart.specs.declared.parts.EngineParts.{EngineParts}
use Rattle.restart.specs.Copies.{IsCopyAnswer}
use Rattle.restart.specs.History.{answered, asked}
use Rattle.restart.specs.Parts.{KeepsStore, core_of, device_of, log_of, unhanded, unwritten, writer_of, horizon_of}
use Rattle.restart.specs.Parts.{copying_of, has_failed}

-- The first n of the records fill one group, or are none: they fit it, and with one more they take too many bytes, or
-- there is no other.
pub record FillsGroup (records : List RecordValue) (n : ℕ) : Type 0 where
  pub fits : 0 < n → FitsGroup (take n records)
  pub full : n < length records → GROUP_MAX < length (spellings (take (n + 1) records))

-- After so many records were written one slot more of the log is open, and where none was written the log is as it was.
pub record OpensOne (n : ℕ) (old new : Log) : Type 0 where
  pub one : 0 < n → new ≡ record old { open_slots = old.open_slots + 1 }
  pub none : n ≡ 0 → new ≡ old

-- So many of the records that were not synced, the first of them, now are, in one slot of the log; the core keeps the
-- rest of its state, and the device's count of failures doesn't fall. The copying of an image stays where it is, and
-- the image becomes what such a group makes of it: its log has the records above its base too, or it is given up.
pub record Writes {D M : Type 0} (failures : D → ℕ) (old new : EngineParts D M) (n : ℕ) : Type 0 where
  pub within : n ≤ length (unwritten old)
  pub horizon : horizon_of new ≡ horizon_of old + n
  pub left : unwritten new ≡ drop n (unwritten old)
  pub slots : OpensOne n (log_of old) (log_of new)
  pub core : core_of new ≡ record (core_of old) { outbox = (core_of new).outbox }
  pub later : failures (device_of old) ≤ failures (device_of new)
  pub copying : copying_of new ≡ copying_of old
  pub image : 0 < n → BecomesImage (halves_of (writer_of old)).geometry.slots (horizon_of old) n
      (image_of (writer_of old)) (image_of (writer_of new))

-- Nothing was written; some of the records may wait elsewhere than in the core.
pub record WritesNothing {D M : Type 0} (failures : D → ℕ) (old new : EngineParts D M) : Type 0 where
  pub none : Writes failures old new 0
  pub keeps : KeepsStore old new

-- No record was synced, and none is lost; the core keeps the rest of its state, and the device's count of failures
-- doesn't fall. The copying and the image under way stay.
pub record KeepsRecords {D M : Type 0} (failures : D → ℕ) (old new : EngineParts D M) : Type 0 where
  pub horizon : horizon_of new ≡ horizon_of old
  pub unwritten-are : unwritten new ≡ unwritten old
  pub core : core_of new ≡ record (core_of old) { outbox = (core_of new).outbox }
  pub later : failures (device_of old) ≤ failures (device_of new)
  pub copying : copying_of new ≡ copying_of old
  pub image : image_of (writer_of new) ≡ image_of (writer_of old)

-- what is answered to a flush
abbrev pub IsFlushAnswer : {D M : Type 0} → (D → ℕ) → Reply M → EngineParts D M → EngineParts D M → Type 0
-- A flush that succeeds writes as many of the records that are not synced as fill one group, one at least where there
-- is one, in one slot of the log, and leaves the device alone where there is none; no call of the device failed.
IsFlushAnswer failures (reply.Horizon n) old new = (has_failed old ≡ false) × (has_failed new ≡ false)
    × (n ≡ horizon_of new) × (unwritten old ≢ [] → horizon_of old < n)
    × ((written : ℕ) × Writes failures old new written × FillsGroup (unwritten old) written)
    × (unwritten old ≡ [] → WritesNothing failures old new) × (failures (device_of new) ≡ failures (device_of old))
IsFlushAnswer failures reply.LogFull old new = (has_failed old ≡ false) × (has_failed new ≡ false)
    × IsLogFull (writer_of old) × (unwritten old ≢ []) × WritesNothing failures old new
-- There was no memory for a group of the records that are not synced, though the log is not full, or to hand them all
-- to the writer; or the device failed, and an engine whose device failed answers so from then on, and leaves it alone.
IsFlushAnswer failures (reply.Refused e) old new =
    ((e ≡ NoMemory) × (has_failed old ≡ false) × (has_failed new ≡ false) × (unwritten old ≢ [])
    × ((¬ IsLogFull (writer_of old)) ⊎ (unhanded new ≢ [])) × WritesNothing failures old new)
    ⊎ ((e ≡ DeviceFailed) × (has_failed new ≡ true) × (has_failed old ≡ false → (unwritten old ≢ [])
    × Rises (failures (device_of old)) (failures (device_of new)))
    × (has_failed old ≡ true → new ≡ old) × KeepsRecords failures old new)
IsFlushAnswer failures (reply.Txn t) old new = ⊥
IsFlushAnswer failures (reply.Rid r) old new = ⊥
IsFlushAnswer failures reply.Stepped old new = ⊥
IsFlushAnswer failures reply.Undone old new = ⊥
IsFlushAnswer failures reply.Empty old new = ⊥
IsFlushAnswer failures reply.Ended old new = ⊥
IsFlushAnswer failures (reply.Ticket t) old new = ⊥
IsFlushAnswer failures (reply.Built b) old new = ⊥
IsFlushAnswer failures (reply.Cleaned c) old new = ⊥
IsFlushAnswer failures reply.Copied old new = ⊥
IsFlushAnswer failures (reply.Flipped m) old new = ⊥
IsFlushAnswer failures reply.Again old new = ⊥
IsFlushAnswer failures (reply.Row row) old new = ⊥
IsFlushAnswer failures (reply.Found rids) old new = ⊥
IsFlushAnswer failures (reply.Life life) old new = ⊥
IsFlushAnswer failures reply.Skipped old new = ⊥

-- the core serves it, with a reply that is allowed, and nothing else of the engine changes
pub record ServesInCore {D M : Type 0} (e : core.Event) (answer : Reply M) (old new : EngineParts D M) : Type 0 where
  pub reply : core.Reply
  pub reply_is : answered answer ≡ Some reply
  pub serves : view.Serves (core_of old) e reply (core_of new)
  pub rest : new ≡ record old { core = new.core }

-- what is answered to a request that asks the core for something
abbrev pub IsInCoreBy : {D M : Type 0} → Option core.Event → Reply M → EngineParts D M → EngineParts D M → Type 0
IsInCoreBy None answer old new = ⊥
IsInCoreBy (Some e) answer old new = ServesInCore e answer old new

-- so of a request in the engine's own words
abbrev pub IsInCore : {D M : Type 0} → Event → Reply M → EngineParts D M → EngineParts D M → Type 0
IsInCore request answer old new = IsInCoreBy (asked request) answer old new

-- what is answered to a request
abbrev pub IsLawful : {D M : Type 0} → (D → ℕ) → Event → Reply M → EngineParts D M → EngineParts D M → Type 0
IsLawful failures event.Begin answer old new = IsInCore event.Begin answer old new
IsLawful failures (event.Insert txn key body) answer old new = IsInCore (event.Insert txn key body) answer old new
IsLawful failures (event.Delete txn rid) answer old new = IsInCore (event.Delete txn rid) answer old new
IsLawful failures (event.Update txn rid key body) answer old new =
    IsInCore (event.Update txn rid key body) answer old new
IsLawful failures (event.Step txn) answer old new = IsInCore (event.Step txn) answer old new
IsLawful failures (event.Undo txn) answer old new = IsInCore (event.Undo txn) answer old new
IsLawful failures (event.End txn) answer old new = IsInCore (event.End txn) answer old new
IsLawful failures (event.Commit txn) answer old new = IsInCore (event.Commit txn) answer old new
IsLawful failures event.Create answer old new = IsInCore event.Create answer old new
IsLawful failures event.Drop answer old new = IsInCore event.Drop answer old new
IsLawful failures event.Build answer old new = IsInCore event.Build answer old new
IsLawful failures event.Clean answer old new = IsInCore event.Clean answer old new
IsLawful failures event.Flush answer old new = IsFlushAnswer failures answer old new
IsLawful failures event.Copy answer old new = IsCopyAnswer failures answer old new
IsLawful failures (event.Get rid) answer old new = IsInCore (event.Get rid) answer old new
IsLawful failures (event.Find key) answer old new = IsInCore (event.Find key) answer old new
IsLawful failures event.Life answer old new = IsInCore event.Life answer old new

-- each request in turn was answered lawfully
abbrev pub AreLawful : {D M : Type 0} → (D → ℕ) → List Event → List (Reply M) → EngineParts D M → EngineParts D M
    → Type 0
AreLawful failures [] [] old new = new ≡ old
AreLawful {D} {M} failures (request ∷ requests) (answer ∷ answers) old new = (mid : EngineParts D M)
    × IsLawful failures request answer old mid × AreLawful failures requests answers mid new
AreLawful failures [] (answer ∷ answers) old new = ⊥
AreLawful failures (request ∷ requests) [] old new = ⊥
