-- What a flush leaves of a writer.
use Rattle.std.proofs.Common.{◌≡◌, ◌≢◌, ◌↔◌, inl, inr, ℕ, ◌+◌, ◌-◌, ◌<◌, ◌≤◌, true, false, List}
use Rattle.std.proofs.Common.{[], ◌∷◌, ◌++◌, length, take, Result, Ok, Err, IfOk, IfErr, OnOk, OnErr}
use Rattle.std.proofs.Common.{⊎_elim, refl, sym, ap, subst, ◌∙◌, arith, length-append, length-take}
use Rattle.std.proofs.lemmas.Bool.{false≢true}
use Rattle.std.proofs.lemmas.List.{nil_from_length}
use Rattle.std.proofs.lemmas.Result.{IfErr-weaker, IfOk-at_ok, on_ok_weaker}
use Rattle.record_values.specs.GeometryValue.{GeometryValue}
use Rattle.record_values.specs.declared.error.Error.{Error}
use Rattle.record_values.specs.declared.error.Error.TheVariants.{NoMemory, DeviceFailed}
use Rattle.records.specs.RecordValue.{RecordValue}
use Rattle.sector_device.specs.Disk.{IsSynced, SameOutside}
use Rattle.sector_device.specs.DevicePast.{DevicePast, LeavesOnly, Rises}
use Rattle.sector_device.proofs.Moments.{started, joined}
use Rattle.gate_log.specs.Area.{Area, InSlot, IsAppended, Log, Stands}
use Rattle.gate_log.specs.Group.{FitsGroup, spellings}
use Rattle.gate_log.specs.declared.area.Appended.{Appended}
use Rattle.gate_log.specs.declared.area.Appended.TheVariants.{Done, Full}
use Rattle.gate_log.specs.declared.group.TheConstants.{GROUP_MAX}
use Rattle.store_image_model.specs.Run.{Run}
use Rattle.store_writer.specs.declared.image.Plan.{Plan}
use Rattle.store_writer.specs.declared.writer.Writer.{Writer}
use Rattle.store_writer.specs.declared.writer.FlushReply.{FlushReply}
use Rattle.store_writer.specs.declared.writer.FlushReply.TheVariants.{Flushed, LogFull, Nothing}
use Rattle.store_writer.specs.Contents.{LeftBy}
use Rattle.store_writer.specs.Image.{BecomesImage, InNewSlot, IsPlan}
use Rattle.store_writer.specs.Writer.{FillsGroup, HasAppended, HasCarriedOn, HasFlushed, InOpenedSlots, IsFlushReply, IsLogFull, IsNotFlushed}
use Rattle.store_writer.specs.Writer.{IsSomewhere, IsWriter, WritesOnly}
use Rattle.store_writer.proofs.Numbers.{length_between}
use Rattle.store_writer.proofs.Replies.{log_more, flushed_more, failed_behind}
use Rattle.store_writer.proofs.Writing.{stood, stands, leaves, has_appended, carried_on, on_ok_at}
use Rattle.store_writer.proofs.Around.{none_written, then_around}
use Rattle.store_writer.proofs.Logs.{appended_around}
use Rattle.store_writer.proofs.Alone.{alone_then, alone_wider, none_alone, slot_alone}

on_ok : {T E P : Type 0} (r : Result T E) → P → OnOk r P
on_ok (Ok x) p = p
on_ok (Err e) p = tt

on_err : {T E P : Type 0} (r : Result T E) → P → OnErr r P
on_err (Ok x) p = tt
on_err (Err e) p = p

-- a slot is closed where a group was added, and where adding it failed
pub closed_where_done : (r : Result Appended Error) (n m : ℕ) → ((r ≡ Ok Full) ↔ (n ≡ m)) → r ≡ Ok Done → n ≢ m
closed_where_done r n m full done all = cc (full.1 all, done)

pub closed_where_failed : (r : Result Appended Error) (e : Error) (n m : ℕ) → ((r ≡ Ok Full) ↔ (n ≡ m)) → r ≡ Err e → n ≢ m
closed_where_failed r e n m full failed all = cc (full.1 all, failed)

-- ---- the records of a group

pub none_fit : (records : List RecordValue) (n : ℕ) → (0 < length records → FitsGroup (take n records)) → n ≡ 0 → records ≡ []
none_fit [] n fits none = refl
none_fit (r ∷ rs) n fits none = absurd (omega (arith, (fits (omega arith)).some, length-take n (r ∷ rs), none))

pub some_fit : (records : List RecordValue) (n : ℕ) → n ≢ 0 → n ≤ length records → records ≢ []
some_fit records n some within none = some (omega (arith, within, ap length none))

pub positive : (n : ℕ) → n ≢ 0 → 0 < n
positive n some = omega (arith, some)

pub fills : (records : List RecordValue) (n : ℕ) → n ≢ 0 → n ≤ length records → (0 < length records → FitsGroup (take n records))
    → (n < length records → GROUP_MAX < length (spellings (take (n + 1) records))) → FillsGroup records n
fills records n some within fits most = record { fits = fits (omega (arith, some, within)); full = most }

-- every slot of the area is open
pub log_full : {D M : Type 0} (past_of : D → DevicePast) (old : Writer D M) → IsSomewhere past_of old → old.failed ≡ false
    → old.log.open_slots ≡ old.log.area.slots → IsLogFull old
log_full past_of old (run, handed, is) sound all =
    all ∙ ap (λ (a : Area). a.slots) (stood past_of run handed old is sound).area-is ∙ sym (ap (λ (x : GeometryValue). x.slots) is.geometry-is)

module _ {D M : Type 0} (past_of : D → DevicePast) (failures : D → ℕ) (old : Writer D M) where
  -- ---- nothing was written

  stays : (result : Result FlushReply Error) → IfOk result (λ reply. IsFlushReply reply old old) → IfErr result (λ e. IsNotFlushed failures e old old)
      → ((n : ℕ) → ¬ (result ≡ Ok (Flushed n))) → OnOk result ((old.failed ≡ false) × (old.failed ≡ false))
      → (old.failed ≡ false → old.waiting ≢ [] → IsLogFull old → result ≡ Ok LogFull) → HasFlushed past_of failures old old result
  stays result flushed err never sound full = record {
    writer = λ run handed is. is;
    images = λ run handed is. started (past_of old.device) (LeftBy run old.synced handed) is.images;
    flushed = flushed;
    image = λ n is. absurd (never n is);
    copying-is = refl;
    known-is = refl;
    sound = sound;
    full = full;
    err = err;
    kept = on_err result refl;
    quiet = on_ok result refl;
    later = omega arith;
    around = none_written past_of old old refl refl refl refl;
    slot = none_alone past_of (InOpenedSlots old) old.device;
    left = on_err result (record { rest = refl; log-is = λ none. refl });
  }

  pub had_failed : old.failed ≡ true → HasFlushed past_of failures old old (Err DeviceFailed)
  had_failed failed = stays (Err DeviceFailed) tt (inr (refl, failed, (λ sound. absurd (false≢true (sym sound ∙ failed))), λ _. refl)) (λ n is. (cc)) tt
      (λ sound _ _. absurd (false≢true (sym sound ∙ failed)))

  module _ (sound : old.failed ≡ false) where
    pub none_waits : old.waiting ≡ [] → HasFlushed past_of failures old old (Ok Nothing)
    none_waits none = stays (Ok Nothing) (refl, none) tt (λ n is. (cc)) (sound, sound) (λ _ waits _. absurd (waits none))

    pub is_full : old.waiting ≢ [] → IsLogFull old → HasFlushed past_of failures old old (Ok LogFull)
    is_full waits full = stays (Ok LogFull) (refl, full, waits) tt (λ n is. (cc)) (sound, sound) (λ _ _ _. refl)

    pub no_memory : (result : Result FlushReply Error) → result ≡ Err NoMemory → old.waiting ≢ [] → ¬ IsLogFull old
        → HasFlushed past_of failures old old result
    no_memory result is waits room = subst (HasFlushed past_of failures old old) (sym is)
        (stays (Err NoMemory) tt (inl (refl, sound, waits, room, refl)) (λ n e. (cc)) tt (λ _ _ full. absurd (room full)))

    -- ---- a group was added to the current half's log, or a part of it

    module _ (somewhere : IsSomewhere past_of old) (count : ℕ) (some : 0 < count) (within : count ≤ length old.waiting) (room : ¬ IsLogFull old)
        (closed : old.log.open_slots ≢ old.log.area.slots) (device : D) (log : Log) (area : log.area ≡ old.log.area)
        (outside : SameOutside (InSlot old.log.area old.log.open_slots) (past_of old.device).disk.content (past_of device).disk.content)
        (any_moment : LeavesOnly (past_of old.device) (past_of device) (IsAppended old.log (past_of old.device).disk (take count old.waiting))) where
      abbrev group : List RecordValue
      group = take count old.waiting

      waits : old.waiting ≢ []
      waits none = omega (arith, some, within, ap length none)

      left_there : (run : Run) (handed : ℕ) → IsWriter past_of run handed old
          → LeavesOnly (past_of old.device) (past_of device) (LeftBy run old.synced handed)
      left_there run handed is = leaves past_of run handed old is sound count group refl within closed (past_of device) any_moment

      slot_there : WritesOnly past_of (InOpenedSlots old) old.device device
      slot_there = alone_wider past_of (InSlot old.log.area old.log.open_slots) (InOpenedSlots old) (λ n here. inl here) old.device device
          (slot_alone past_of old.log old.device device group outside any_moment)

      pub append_failed : log ≡ old.log → Rises (failures old.device) (failures device) → failures old.device ≤ failures device
          → HasFlushed past_of failures old (record old { device = device; log = log; failed = true }) (Err DeviceFailed)
      append_failed log_is rises later =
          let new : Writer D M = record old { device = device; log = log; failed = true } in
          let (run, handed, is) = somewhere in
          record {
            writer = λ run handed is. carried_on past_of run handed old new is refl refl refl (λ good. absurd (false≢true (sym good)))
                (left_there run handed is);
            images = left_there;
            flushed = tt;
            image = λ n never. absurd ((cc));
            copying-is = refl;
            known-is = refl;
            sound = tt;
            full = λ _ _ full. absurd (room full);
            err = inr (refl, refl, (λ _. (waits, rises)), λ was. absurd (false≢true (sym sound ∙ was)));
            kept = refl;
            quiet = tt;
            later = later;
            around = appended_around past_of run handed old is sound closed new group refl area refl outside any_moment;
            slot = slot_there;
            left = record { rest = refl; log-is = λ none. log_is };
          }

      -- all of it, and it is synced
      module _ (stands_new : (groups : List (List RecordValue)) → Stands old.log (past_of old.device).disk.content groups
          → Stands log (past_of device).disk.content (groups ++ group ∷ []))
          (all : IsSynced (past_of device).disk) where
        abbrev mid : Writer D M
        mid = record old { device = device; log = log }

        pub has : (run : Run) (handed : ℕ) → IsWriter past_of run handed old → HasAppended past_of run handed count mid
        has run handed is = has_appended past_of run handed old is sound count group refl within closed mid refl area refl refl refl refl refl outside
            (stands_new (stood past_of run handed old is sound).has.groups (stands past_of run handed old is sound)) all

        log_is : log ≡ record old.log { open_slots = old.log.open_slots + 1 }
        log_is =
            let (run, handed, is) = somewhere in
            let groups = (stood past_of run handed old is sound).has.groups in
            let before = stands past_of run handed old is sound in
            log_more old.log log area (omega (arith, before.counted, (stands_new groups before).counted, length-append groups (group ∷ [])))

        module _ (plan : Plan M) (new : Writer D M) (result : Result FlushReply Error) (fills : FillsGroup old.waiting count)
            (planned : IsPlan old.image old.halves.geometry.slots old.synced group plan) (quiet : failures device ≡ failures old.device)
            (on : HasCarriedOn past_of failures count plan mid new result) where
          image_is : (n : ℕ) → result ≡ Ok (Flushed n) → BecomesImage old.halves.geometry.slots old.synced (n - old.synced) old.image new.image
          image_is n replies =
              let (run, handed, is) = somewhere in
              let flushed = IfOk-at_ok _ replies on.flushed in
              let number : Flushed n ≡ Flushed new.synced = flushed.0 in
              let same : n ≡ new.synced = cc number in
              let counted : count ≡ n - old.synced = omega (arith, same, flushed.1) in
              subst (λ (k : ℕ). BecomesImage old.halves.geometry.slots old.synced k old.image new.image) counted
              (on_ok_at result replies on.image run handed old.halves.geometry.slots (has run handed is)
              (ap (λ (x : GeometryValue). x.slots) is.geometry-is) some planned)

          pub carried : HasFlushed past_of failures old new result
          carried =
              let (run, handed, is) = somewhere in
              record {
                writer = λ run handed is. on.writer run handed (has run handed is);
                images = λ run handed is. joined (past_of old.device) (past_of device) (past_of new.device) (LeftBy run old.synced handed)
                    (left_there run handed is) (on.images run handed (has run handed is));
                flushed = flushed_more old mid new count result refl refl refl log_is some fills on.flushed on.rest;
                image = image_is;
                copying-is = on.copying-is;
                known-is = on.known-is;
                sound = sound_then result on.flushed;
                full = λ _ _ full. absurd (room full);
                err = IfErr-weaker result _ _ (λ e failed. inr (
                  failed.0,
                  failed.1,
                  (λ _. (waits, λ few. omega (arith, quiet, failed.3 (omega (arith, quiet, few))))),
                  λ was. absurd (false≢true (sym sound ∙ was)),
                )) on.err;
                kept = kept_then result on.err;
                quiet = on_ok_weaker result (λ same. same ∙ quiet) on.quiet;
                later = omega (arith, quiet, on.later);
                around = then_around past_of old mid new (appended_around past_of run handed old is sound closed mid group refl area refl outside any_moment)
                    on.around;
                slot = alone_then past_of (InOpenedSlots old) old.device device new.device (λ n loose. absurd (false≢true (sym (all n) ∙ loose))) slot_there
                    (alone_wider past_of (InNewSlot old.image) (InOpenedSlots old) (λ n there. inr there) device new.device on.slot);
                left = failed_behind old mid new count result refl on.left;
              }
            where
              sound_then : (r : Result FlushReply Error) → IfOk r (λ reply. (reply ≡ Flushed new.synced) × (new.synced ≡ old.synced + count)
                  × (new.failed ≡ old.failed)) → OnOk r ((old.failed ≡ false) × (new.failed ≡ false))
              sound_then (Ok reply) flushed = (sound, flushed.2 ∙ sound)
              sound_then (Err e) flushed = tt

              kept_then : (r : Result FlushReply Error) → IfErr r (λ e. (e ≡ DeviceFailed) × (new.failed ≡ true) × (new.synced ≡ old.synced)
                  × Rises (failures device) (failures new.device)) → OnErr r (new.synced ≡ old.synced)
              kept_then (Ok reply) err = tt
              kept_then (Err e) err = err.2

-- what a flush says of the records that were handed in
module _ {D M : Type 0} (past_of : D → DevicePast) (failures : D → ℕ) (old new : Writer D M) (run : Run) (handed : ℕ)
    (is : IsWriter past_of run handed old) where
  many : length old.waiting ≡ handed - old.synced
  many = ap length is.waits ∙ length_between run old.synced handed is.opened is.reached is.made

  none_waiting : old.synced ≡ handed → old.waiting ≡ []
  none_waiting all = nil_from_length old.waiting (omega (arith, all, many))

  pub nothing_then : (result : Result FlushReply Error) → IfOk result (λ reply. IsFlushReply reply old new) → result ≡ Ok Nothing → old.synced ≡ handed
  nothing_then result flushed replies = omega (arith, ap length (IfOk-at_ok _ replies flushed).1, many, is.reached)

  pub idle_then : (result : Result FlushReply Error) → IfOk result (λ reply. IsFlushReply reply old new) → IfErr result (λ e. IsNotFlushed failures e old new)
      → old.failed ≡ false → old.synced ≡ handed → result ≡ Ok Nothing
  idle_then (Ok (Flushed n)) flushed err sound all = absurd
      (omega (arith, flushed.2.fits.some, length-take (n - old.synced) old.waiting, ap length (none_waiting all)))
  idle_then (Ok Nothing) flushed err sound all = refl
  idle_then (Ok LogFull) flushed err sound all = absurd (flushed.2 (none_waiting all))
  idle_then (Err e) flushed err sound all = absurd (⊎_elim (λ wants. wants.2 (none_waiting all)) (λ failed. (failed.2 sound).0 (none_waiting all)) err)
