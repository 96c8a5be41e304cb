-- Calls that write certain sectors alone.
use Rattle.std.proofs.Common.{◌≡◌, ◌⊎◌, inl, inr, ⊎_elim, ℕ, List, true, false, refl, sym, subst}
use Rattle.sector_device.specs.Disk.{CrashState, SameOutside}
use Rattle.sector_device.specs.DevicePast.{DevicePast, LeavesOnly, RunsWithin}
use Rattle.sector_device.proofs.Moments.{joined, started, weaker}
use Rattle.sector_device.proofs.Sectors.{crash_outside, outside_unsynced, same_outside_then, same_outside_wider}
use Rattle.records.specs.RecordValue.{RecordValue}
use Rattle.record_values.specs.GeometryValue.{GeometryValue}
use Rattle.gate_log.specs.Area.{InSlot, IsAppended, Log}
use Rattle.flip_image.specs.declared.half.Half.{Half}
use Rattle.flip_image.specs.Layout.{other, InHalf, InHalfImage}
use Rattle.flip_image.specs.Store.{IsFlipping}
use Rattle.store_image_model.specs.Run.{Run}
use Rattle.store_writer.specs.declared.writer.Writer.{Writer}
use Rattle.store_writer.specs.Writer.{IsWriter, WritesOnly}
use Rattle.store_writer.proofs.Writing.{stood}
use Rattle.store_writer.proofs.Idle.{writing, written_outside}

module _ {D : Type 0} (past_of : D → DevicePast) (sectors : ℕ → Type 0) where
  abbrev content : D → CrashState
  content d = (past_of d).disk.content

  abbrev MayChange : D → ℕ → Type 0
  MayChange d n = sectors n ⊎ ((past_of d).disk.unsynced n ≡ true)

  -- none was written
  pub none_alone : (d : D) → WritesOnly past_of sectors d d
  none_alone d = record {
    now = record { sectors = refl; same = λ k out. refl };
    images = started (past_of d) (SameOutside (MayChange d) (content d)) (λ c crash.
        crash_outside (MayChange d) (content d) (past_of d).disk c (outside_unsynced sectors (past_of d).disk) crash);
  }

  -- at each moment a crash left the others
  pub these_alone : (old new : D) → SameOutside sectors (content old) (content new) → LeavesOnly (past_of old) (past_of new) (SameOutside sectors (content old))
      → WritesOnly past_of sectors old new
  these_alone old new now run = record {
    now = now;
    images = weaker (past_of old) (past_of new) (SameOutside sectors (content old)) (SameOutside (MayChange old) (content old)) (λ c same.
        same_outside_wider sectors (MayChange old) (content old) c (λ n inside. inl inside) same) run;
  }

module _ {D : Type 0} (past_of : D → DevicePast) where
  -- it is among more sectors
  pub alone_wider : (few more : ℕ → Type 0) → ((n : ℕ) → few n → more n) → (old new : D) → WritesOnly past_of few old new → WritesOnly past_of more old new
  alone_wider few more within old new wrote = record {
    now = same_outside_wider few more (content past_of few old) (content past_of few new) within wrote.now;
    images = weaker (past_of old) (past_of new) (SameOutside (MayChange past_of few old) (content past_of few old))
        (SameOutside (MayChange past_of more old) (content past_of more old))
        (λ c same. same_outside_wider (MayChange past_of few old) (MayChange past_of more old) (content past_of few old) c (λ n either.
        ⊎_elim (λ one. inl (within n one)) (λ loose. inr loose) either) same) wrote.images;
  }

  -- one call after another, where the sectors that are unsynced between them are among these
  pub alone_then : (sectors : ℕ → Type 0) (old mid new : D) → ((n : ℕ) → (past_of mid).disk.unsynced n ≡ true → sectors n) → WritesOnly past_of sectors old mid
      → WritesOnly past_of sectors mid new → WritesOnly past_of sectors old new
  alone_then sectors old mid new loose first second = record {
    now = same_outside_then sectors (content past_of sectors old) (content past_of sectors mid) (content past_of sectors new) first.now second.now;
    images = joined (past_of old) (past_of mid) (past_of new) (SameOutside (MayChange past_of sectors old) (content past_of sectors old)) first.images
        (weaker (past_of mid) (past_of new) (SameOutside (MayChange past_of sectors mid) (content past_of sectors mid))
        (SameOutside (MayChange past_of sectors old) (content past_of sectors old))
        (λ c same. same_outside_wider sectors (MayChange past_of sectors old) (content past_of sectors old) c (λ n one. inl one)
        (same_outside_then sectors (content past_of sectors old) (content past_of sectors mid) c first.now
        (same_outside_wider (MayChange past_of sectors mid) sectors (content past_of sectors mid) c (λ n either.
        ⊎_elim (λ one. one) (loose n) either) same)))
        second.images);
  }

  -- a group was added to a log, or a part of it
  pub slot_alone : (log : Log) (old new : D) (group : List RecordValue)
      → SameOutside (InSlot log.area log.open_slots) (past_of old).disk.content (past_of new).disk.content
      → LeavesOnly (past_of old) (past_of new) (IsAppended log (past_of old).disk group) → WritesOnly past_of (InSlot log.area log.open_slots) old new
  slot_alone log old new group outside run = record {
    now = outside;
    images = weaker (past_of old) (past_of new) (IsAppended log (past_of old).disk group)
        (SameOutside (MayChange past_of (InSlot log.area log.open_slots) old) (content past_of (InSlot log.area log.open_slots) old)) (λ c appended.
        appended.outside) run;
  }

-- the flip sector was
pub flipped_alone : {D : Type 0} (past_of : D → DevicePast) (old new : D) → SameOutside (λ n. n ≡ 1) (past_of old).disk.content (past_of new).disk.content
    → LeavesOnly (past_of old) (past_of new) (IsFlipping (past_of old).disk) → WritesOnly past_of (λ n. n ≡ 1) old new
flipped_alone past_of old new now run = record {
  now = now;
  images = weaker (past_of old) (past_of new) (IsFlipping (past_of old).disk)
      (SameOutside (λ n. (n ≡ 1) ⊎ ((past_of old).disk.unsynced n ≡ true)) (past_of old).disk.content) (λ c flipping. ⊎_elim
      (λ same. same_outside_wider (λ n. (past_of old).disk.unsynced n ≡ true) (λ n. (n ≡ 1)
      ⊎ ((past_of old).disk.unsynced n ≡ true)) (past_of old).disk.content c (λ n loose. inr loose) same)
      (λ same. same_outside_wider (λ n. n ≡ 1) (λ n. (n ≡ 1) ⊎ ((past_of old).disk.unsynced n ≡ true)) (past_of old).disk.content c (λ n is. inl is) same)
      flipping) run;
}

-- a part of the image that isn't current was
pub part_alone : {D M : Type 0} (past_of : D → DevicePast) (run : Run) (handed : ℕ) (old : Writer D M) → IsWriter past_of run handed old → old.failed ≡ false
    → (new : D)
    → RunsWithin (λ n. InHalfImage old.halves.geometry (other old.halves.current) n
    ⊎ ((past_of old.device).disk.unsynced n ≡ true)) (past_of old.device).disk.content (past_of old.device) (past_of new)
    → WritesOnly past_of (InHalf old.halves.geometry (other old.halves.current)) old.device new
part_alone past_of run handed old is sound new within =
    these_alone past_of (InHalf g half) old.device new (written_outside g half (past_of old.device) (past_of new) loose within)
    (writing g half (past_of old.device) (past_of new) loose within)
  where
    g : GeometryValue
    g = old.halves.geometry

    half : Half
    half = other old.halves.current

    loose : (n : ℕ) → (past_of old.device).disk.unsynced n ≡ true → InHalfImage g half n
    loose n unsynced = subst (λ (x : GeometryValue). InHalfImage x half n) (sym is.geometry-is) ((stood past_of run handed old is sound).loose n unsynced)
