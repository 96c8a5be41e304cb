-- What is answered to a flush.
use Rattle.std.proofs.Common.{false, inl, inr, refl, true, ◌≡◌, ◌≢◌, ℕ, ◌+◌, ◌-◌, ◌≤◌, ◌<◌, List, [], ◌∷◌, ◌++◌, length, drop, sym, ◌∙◌, ap, subst, arith}
use Rattle.std.proofs.Common.{append-nil, ⊎_elim, length-drop}
use Rattle.std.proofs.lemmas.Bool.{false≢true}
use Rattle.std.proofs.lemmas.List.{length-take-le}
use Rattle.records.specs.RecordValue.{RecordValue}
use Rattle.record_values.specs.declared.error.Error.{Error}
use Rattle.record_values.specs.declared.error.Error.TheVariants.{NoMemory, DeviceFailed}
use Rattle.flip_image.specs.Layout.{HalvesValue}
use Rattle.gate_log.specs.Area.{Log}
use Rattle.store_image_model.specs.Run.{Run, end_of, records_between}
use Rattle.sector_device.specs.DevicePast.{DevicePast, LeavesOnly, Rises}
use Rattle.sector_device.proofs.Moments.{started}
use Rattle.store_writer.specs.Contents.{LeftBy}
use Rattle.store_writer.specs.Image.{BecomesImage}
use Rattle.store_writer.specs.Parts as writer
use Rattle.store_writer.specs.Writer as told
use Rattle.store_writer.specs.Writer.{IsBeforeFlush, IsFlushReply, IsLogFull, IsNotFlushed, IsWriter}
use Rattle.store_writer.specs.declared.writer.FlushReply.TheVariants.{Flushed, Nothing}
use Rattle.store_writer.specs.declared.writer.FlushReply.TheVariants as flush
use Rattle.restart.specs.declared.event.Reply.TheVariants as reply
use Rattle.restart.specs.declared.parts.EngineParts.{EngineParts}
use Rattle.restart.specs.Handing.{HandsOver, MovesOn}
use Rattle.restart.specs.Lawful.{FillsGroup, IsFlushAnswer, KeepsRecords, OpensOne, Writes, WritesNothing}
use Rattle.restart.specs.Parts.{core_of, device_of, has_failed, horizon_of, log_of, unhanded, unwritten, writer_of}
use Rattle.restart.specs.Store.{CanRun}
use Rattle.restart.proofs.Keeping.{keeps_both, keeps_over, keeps_same}
use Rattle.restart.proofs.Moving.{moves_by, moves_then}

-- where nothing was written no slot is open that was not
no_slot : (old new : Log) → new ≡ old → OpensOne 0 old new
no_slot old new same = record { one = λ some. absurd (omega (arith, some)); none = λ _. same }

one_slot : (n : ℕ) (old new : Log) → 0 < n → new ≡ record old { open_slots = old.open_slots + 1 } → OpensOne n old new
one_slot n old new some same = record { one = λ _. same; none = λ none. absurd (omega (arith, some, none)) }

-- ---- where the device had failed

module _ {D M : Type 0} (past_of : D → DevicePast) (failures : D → ℕ) (old : EngineParts D M) where
  pub stays : MovesOn past_of old old
  stays = moves_by past_of old old refl refl (λ run handed w. w) (λ run handed w.
      started (past_of (device_of old)) (LeftBy run (horizon_of old) handed) w.images) (omega arith)
      refl

  pub failed_before : has_failed old ≡ true → IsFlushAnswer failures (reply.Refused DeviceFailed) old old
  failed_before failed = inr (
    refl,
    failed,
    (λ sound. absurd (false≢true (sym sound ∙ failed))),
    (λ _. refl),
    record { horizon = refl; unwritten-are = refl; core = refl; later = omega arith; copying = refl; image = refl },
  )

-- ---- where not all records could be handed over

module _ {D M : Type 0} (past_of : D → DevicePast) (failures : D → ℕ) (old mid : EngineParts D M) (over : HandsOver past_of old mid) where
  pub nothing_written : WritesNothing failures old mid
  nothing_written = record {
    none = record {
      within = omega arith;
      horizon = omega (arith, over.horizon);
      left = over.unwritten-are;
      slots = no_slot (log_of old) (log_of mid) over.log;
      core = over.moves.core;
      later = omega (arith, ap failures over.device);
      copying = over.copying;
      image = λ some. absurd (omega (arith, some));
    };
    keeps = keeps_over past_of old mid over;
  }

  append_none : (a b : List RecordValue) → a ++ b ≡ [] → b ≡ []
  append_none [] b none = none
  append_none (x ∷ a) b none = absurd cc

  some_unwritten : unhanded mid ≢ [] → unwritten old ≢ []
  some_unwritten some none = some (append_none (writer.waiting_of (writer_of mid)) (unhanded mid) (over.unwritten-are ∙ none))

  pub not_over : has_failed old ≡ false → unhanded mid ≢ [] → IsFlushAnswer failures (reply.Refused NoMemory) old mid
  not_over sound some = inl (refl, sound, over.failed ∙ sound, some_unwritten some, inr some, nothing_written)

  -- ---- where all were

  module _ (new : EngineParts D M) (all : unhanded mid ≡ []) (sound : has_failed old ≡ false) (core_is : core_of new ≡ core_of mid)
      (rest : unhanded new ≡ unhanded mid) (copying : writer.copying_of (writer_of new) ≡ writer.copying_of (writer_of mid))
      (can : CanRun past_of mid) (keeps : (run : Run) (handed : ℕ) → IsWriter past_of run handed (writer_of mid) → IsWriter past_of run handed (writer_of new))
      (images : (run : Run) (handed : ℕ) → IsWriter past_of run handed (writer_of mid)
      → LeavesOnly (past_of (device_of mid)) (past_of (device_of new)) (LeftBy run (horizon_of mid) handed))
      (later : failures (device_of mid) ≤ failures (device_of new)) (size : new.geometry ≡ mid.geometry) where
    pub moves : horizon_of mid ≤ horizon_of new → MovesOn past_of old new
    moves grows = moves_then past_of old mid new over.moves (moves_by past_of mid new core_is rest keeps images grows size)

    waited : unwritten old ≡ writer.waiting_of (writer_of mid)
    waited = sym over.unwritten-are ∙ ap (λ (l : List RecordValue). writer.waiting_of (writer_of mid) ++ l) all ∙ append-nil (writer.waiting_of (writer_of mid))

    waits : unwritten new ≡ writer.waiting_of (writer_of new)
    waits = ap (λ (l : List RecordValue). writer.waiting_of (writer_of new) ++ l) (rest ∙ all) ∙ append-nil (writer.waiting_of (writer_of new))

    some_waited : writer.waiting_of (writer_of mid) ≢ [] → unwritten old ≢ []
    some_waited some none = some (sym waited ∙ none)

    -- no more were synced than waited
    count_between : (run : Run) (m n : ℕ) → run.last ≤ m → n ≤ end_of run → length (records_between run m n) ≡ n - m
    count_between run m n low high = length-take-le (n - m) (drop (m - run.last) run.records) (omega (arith, length-drop (m - run.last) run.records, low, high))

    within : horizon_of new - horizon_of mid ≤ length (writer.waiting_of (writer_of mid))
    within =
        let before = can.4.writer in
        let after = keeps can.0 can.1 before in
        omega (arith, after.reached, before.reached, ap length before.waits, count_between can.0 (horizon_of mid) can.1 before.opened before.made)

    wrote : (count : ℕ) → horizon_of new ≡ horizon_of mid + count → writer.waiting_of (writer_of new) ≡ drop count (writer.waiting_of (writer_of mid))
        → OpensOne count (log_of mid) (log_of new)
        → (0 < count → BecomesImage (writer.halves_of (writer_of mid)).geometry.slots (horizon_of mid) count (writer.image_of (writer_of mid))
        (writer.image_of (writer_of new))) → Writes failures old new count
    wrote count horizon waiting slots becomes = record {
      within = omega (arith, within, horizon, ap length waited);
      horizon = omega (arith, horizon, over.horizon);
      left = waits ∙ waiting ∙ ap (drop count) (sym waited);
      slots = subst (λ (l : Log). OpensOne count l (log_of new)) over.log slots;
      core = (core_is ∙ over.moves.core) ∙ ap (λ (o : List RecordValue). record (core_of old) { outbox = o }) (sym (ap (λ v. v.outbox) core_is));
      later = omega (arith, later, ap failures over.device);
      copying = copying ∙ over.copying;
      image = λ some.
          subst (λ (h : HalvesValue). BecomesImage h.geometry.slots (horizon_of old) count (writer.image_of (writer_of old)) (writer.image_of (writer_of new)))
          over.halves
          (subst (λ n. BecomesImage (writer.halves_of (writer_of mid)).geometry.slots n count (writer.image_of (writer_of old))
          (writer.image_of (writer_of new))) over.horizon
          (subst (λ i. BecomesImage (writer.halves_of (writer_of mid)).geometry.slots (horizon_of mid) count i (writer.image_of (writer_of new))) over.image
          (becomes some)));
    }

    wrote_none : writer_of new ≡ writer_of mid → WritesNothing failures old new
    wrote_none same = record {
      none = wrote 0 (omega (arith, ap (λ w. writer.synced_of w) same)) (ap (λ w. writer.waiting_of w) same)
          (no_slot (log_of mid) (log_of new) (ap (λ w. writer.log_of w) same)) (λ some. absurd (omega (arith, some)));
      keeps = keeps_both old mid new (keeps_over past_of old mid over) (keeps_same mid new same);
    }

    -- a group was written
    pub flushed : (n : ℕ) → IsFlushReply (Flushed n) (writer_of mid) (writer_of new)
        → BecomesImage (writer.halves_of (writer_of mid)).geometry.slots (horizon_of mid) (n - horizon_of mid) (writer.image_of (writer_of mid))
        (writer.image_of (writer_of new)) → has_failed new ≡ false → failures (device_of new) ≡ failures (device_of mid)
        → IsFlushAnswer failures (reply.Horizon n) old new
    flushed n is becomes after quiet =
        let count : ℕ = n - horizon_of mid in
        let size : horizon_of new - horizon_of mid ≡ count = ap (λ m. m - horizon_of mid) (sym is.0) in
        let fills : told.FillsGroup (writer.waiting_of (writer_of mid)) count = is.2 in (
          sound,
          after,
          is.0,
          (λ _. omega (arith, is.1, over.horizon)),
          (
            count,
            wrote count (omega (arith, is.0, is.1)) (is.3.waiting-are
                ∙ ap (λ m. drop m (writer.waiting_of (writer_of mid))) size) (one_slot count (log_of mid) (log_of new) (omega (arith, is.1)) is.3.log-is) (λ _.
                becomes),
            subst (λ (rs : List RecordValue). FillsGroup rs count) (sym waited) (record { fits = λ _. fills.fits; full = fills.full }),
          ),
          (λ none. absurd (omega (arith, within, is.0, is.1, ap length (sym waited ∙ none)))),
          quiet ∙ ap failures over.device,
        )

    -- nothing waited
    pub none_to_flush : (n : ℕ) → n ≡ horizon_of new → IsFlushReply Nothing (writer_of mid) (writer_of new) → has_failed new ≡ false
        → failures (device_of new) ≡ failures (device_of mid) → IsFlushAnswer failures (reply.Horizon n) old new
    none_to_flush n number is after quiet = (
      sound,
      after,
      number,
      (λ some. absurd (some (waited ∙ is.1))),
      (
        0,
        (wrote_none is.0).none,
        record {
          fits = λ some. absurd (omega (arith, some));
          full = λ below.
              absurd (omega (arith, below, ap length (waited ∙ is.1)));
        },
      ),
      (λ _. wrote_none is.0),
      quiet ∙ ap failures over.device,
    )

    full_then : IsLogFull (writer_of mid) → IsLogFull (writer_of old)
    full_then full = sym (ap (λ (l : Log). l.open_slots) over.log) ∙ full ∙ ap (λ h. h.geometry.slots) over.halves

    full_before : IsLogFull (writer_of old) → IsLogFull (writer_of mid)
    full_before full = ap (λ (l : Log). l.open_slots) over.log ∙ full ∙ sym (ap (λ h. h.geometry.slots) over.halves)

    pub log_full : IsFlushReply flush.LogFull (writer_of mid) (writer_of new) → has_failed new ≡ false → IsFlushAnswer failures reply.LogFull old new
    log_full is after = (sound, after, full_then is.1, some_waited is.2, wrote_none is.0)

    kept_records : horizon_of new ≡ horizon_of mid → IsBeforeFlush (writer_of mid) (writer_of new) → KeepsRecords failures old new
    kept_records kept left = record {
      horizon = kept ∙ over.horizon;
      unwritten-are = waits ∙ (after.waits ∙ ap (λ n. records_between can.0 n can.1) kept ∙ sym before.waits) ∙ sym waited;
      core = (core_is ∙ over.moves.core) ∙ ap (λ (o : List RecordValue). record (core_of old) { outbox = o }) (sym (ap (λ v. v.outbox) core_is));
      later = omega (arith, later, ap failures over.device);
      copying = copying ∙ over.copying;
      image = ap (λ w. writer.image_of w) left.rest ∙ over.image;
    }
      where
        before : IsWriter past_of can.0 can.1 (writer_of mid)
        before = can.4.writer

        after : IsWriter past_of can.0 can.1 (writer_of new)
        after = keeps can.0 can.1 before

    pub not_flushed : (e : Error) → IsNotFlushed failures e (writer_of mid) (writer_of new) → horizon_of new ≡ horizon_of mid
        → IsBeforeFlush (writer_of mid) (writer_of new) → IsFlushAnswer failures (reply.Refused e) old new
    not_flushed e why kept left = ⊎_elim
        (λ none. inl (
          none.0,
          sound,
          ap (λ w. writer.has_failed w) none.4
              ∙ none.1,
          some_waited none.2,
          inl (λ full. none.3 (full_before full)),
          wrote_none none.4,
        ))
        (λ failed. inr (
          failed.0,
          failed.1,
          (λ before. let f = failed.2 (over.failed ∙ before) in
              (some_waited f.0, subst (λ n. Rises n (failures (device_of new))) (ap failures over.device) f.1)),
          (λ before. absurd (false≢true (sym sound ∙ before))),
          kept_records kept left,
        ))
        why
