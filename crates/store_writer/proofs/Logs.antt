-- What a flush writes lies in the logs.
use Rattle.std.proofs.Common.{◌≡◌, ◌≢◌, ◌⊎◌, inl, inr, ⊎_elim, ℕ, ◌<◌, false, true, Option, Some, None, IfSome, List, refl, sym, ap, subst, ◌∙◌, arith}
use Rattle.records.specs.RecordValue.{RecordValue}
use Rattle.record_values.specs.GeometryValue.{GeometryValue}
use Rattle.sector_device.specs.Disk.{Disk, SameOutside}
use Rattle.sector_device.specs.DevicePast.{DevicePast, LeavesOnly}
use Rattle.sector_device.proofs.Moments.{weaker}
use Rattle.sector_device.proofs.Sectors.{same_outside_wider}
use Rattle.gate_log.specs.Area.{Area, InArea, InSlot, IsAppended}
use Rattle.flip_image.specs.Layout.{other, InLog}
use Rattle.store_image_model.specs.Run.{Run}
use Rattle.store_writer.specs.declared.writer.Writer.{Writer}
use Rattle.store_writer.specs.declared.image.NewImage.{NewImage}
use Rattle.store_writer.specs.Image.{IsUnderway, InNewLog}
use Rattle.store_writer.specs.Writer.{IsWriter, HasAppended, InLogs, WritesLogsAlone}
use Rattle.store_writer.proofs.Writing.{stood}

-- a group was added to the current half's log, or a part of it
module _ {D M : Type 0} (past_of : D → DevicePast) (run : Run) (handed : ℕ) (old : Writer D M) (is : IsWriter past_of run handed old)
    (sound : old.failed ≡ false)
    (room : old.log.open_slots ≢ old.log.area.slots) where
  abbrev before : Disk
  before = (past_of old.device).disk

  below : old.log.open_slots < old.log.area.slots
  below = let stands = (stood past_of run handed old is sound).stands in omega (arith, room, stands.counted, stands.held.room)

  in_log : (n : ℕ) → InSlot old.log.area old.log.open_slots n → InLogs old n
  in_log n slot = inl (subst (λ (g : GeometryValue). InLog g old.halves.current n) (sym is.geometry-is)
      (subst (λ (a : Area). InArea a n) (stood past_of run handed old is sound).area-is (omega (arith, slot.0), omega (arith, slot.1, below))))

  pub appended_around : (new : Writer D M) (group : List RecordValue) → new.halves ≡ old.halves → new.log.area ≡ old.log.area → new.image ≡ old.image
      → SameOutside (InSlot old.log.area old.log.open_slots) before.content (past_of new.device).disk.content
      → LeavesOnly (past_of old.device) (past_of new.device) (IsAppended old.log before group) → WritesLogsAlone past_of old new
  appended_around new group halves area image outside any_moment = record {
    halves-are = halves;
    area-is = area;
    none-begun = λ none. image ∙ none;
    now = same_outside_wider (InSlot old.log.area old.log.open_slots) (InLogs old) before.content (past_of new.device).disk.content in_log outside;
    images = weaker (past_of old.device) (past_of new.device) (IsAppended old.log before group)
        (SameOutside (λ n. InLogs old n ⊎ (before.unsynced n ≡ true)) before.content)
        (λ c appended. same_outside_wider (λ n. InSlot old.log.area old.log.open_slots n ⊎ (before.unsynced n ≡ true)) (λ n. InLogs old n
        ⊎ (before.unsynced n ≡ true)) before.content c
        (λ n either. ⊎_elim (λ slot. inl (in_log n slot)) (λ loose. inr loose) either) appended.outside) any_moment;
  }

-- a group was carried on into the log of an image's half, or a part of it, or nothing
module _ {D M : Type 0} (past_of : D → DevicePast) (run : Run) (handed count : ℕ) (w : Writer D M) (is : HasAppended past_of run handed count w) where
  abbrev here : Disk
  here = (past_of w.device).disk

  in_new_log : (n : ℕ) (new : Option NewImage) → w.image ≡ new → IfSome new (IsUnderway run (other w.halves.current) here.content w.synced) → InNewLog new n
      → InLogs w n
  in_new_log n None there underway inside = absurd inside
  in_new_log n (Some new) there underway inside = inr (
    (λ none. absurd (let never : Some new ≡ None = sym there ∙ none in cc never)),
    subst (λ (g : GeometryValue). InLog g (other w.halves.current) n) (sym is.geometry-is) (subst (λ (a : Area). InArea a n) underway.area-is inside),
  )

  in_logs : (n : ℕ) → InNewLog w.image n → InLogs w n
  in_logs n inside = in_new_log n w.image refl is.image inside

  pub carried_around : (new : Writer D M) → new.halves ≡ w.halves → new.log ≡ w.log → (w.image ≡ None → new.image ≡ None)
      → SameOutside (InNewLog w.image) here.content (past_of new.device).disk.content
      → LeavesOnly (past_of w.device) (past_of new.device) (SameOutside (InNewLog w.image) here.content) → WritesLogsAlone past_of w new
  carried_around new halves log image outside any_moment = record {
    halves-are = halves;
    area-is = ap (λ l. l.area) log;
    none-begun = image;
    now = same_outside_wider (InNewLog w.image) (InLogs w) here.content (past_of new.device).disk.content in_logs outside;
    images = weaker (past_of w.device) (past_of new.device) (SameOutside (InNewLog w.image) here.content)
        (SameOutside (λ n. InLogs w n ⊎ (here.unsynced n ≡ true)) here.content)
        (λ c same. same_outside_wider (InNewLog w.image) (λ n. InLogs w n ⊎ (here.unsynced n ≡ true)) here.content c (λ n inside. inl (in_logs n inside)) same)
        any_moment;
  }
