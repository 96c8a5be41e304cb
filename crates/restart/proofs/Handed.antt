-- What handing records over leaves.
use Rattle.std.proofs.Common.{◌≡◌, ℕ, ◌+◌, ◌≤◌, List, [], ◌++◌, length, sym, ◌∙◌, ap, subst, arith, append_assoc}
use Rattle.records.specs.RecordValue.{RecordValue}
use Rattle.core_model.specs.States.{State}
use Rattle.core_model.specs.Events.{Standing}
use Rattle.store_image_model.specs.Run.{Run, end_of, records_between}
use Rattle.nsf_core.specs.Outbox.{HandsOn}
use Rattle.core_parts.specs.View.{CoreValue}
use Rattle.sector_device.specs.Disk.{CrashState}
use Rattle.sector_device.specs.DevicePast.{DevicePast, LeavesOnly}
use Rattle.sector_device.proofs.Moments.{started}
use Rattle.store_writer.specs.Contents.{LeftBy}
use Rattle.store_writer.specs.Parts as writer
use Rattle.store_writer.specs.Writer.{AreNext, IsWriter}
use Rattle.restart.specs.declared.parts.EngineParts.{EngineParts}
use Rattle.restart.specs.Handing.{HandsOver}
use Rattle.restart.specs.Parts.{core_of, device_of, horizon_of, unhanded, writer_of}
use Rattle.restart.specs.Store.{StandsAt}
use Rattle.restart.proofs.Moving.{stands_with}
use Rattle.restart.proofs.Numbers.{first_behind, rest_behind, within_end}

module _ {D M : Type 0} (past_of : D → DevicePast) (old : EngineParts D M) (core_then : CoreValue) (taken : List RecordValue)
    (hands : HandsOn (core_of old) core_then old.outgoing.items taken) where
  was : unhanded old ≡ taken ++ core_then.outbox
  was =
      ap (λ (o : List RecordValue). old.outgoing.items ++ o) hands.split ∙ sym (append_assoc old.outgoing.items hands.handed core_then.outbox)
      ∙ ap (λ (o : List RecordValue). o ++ core_then.outbox) (sym hands.taken)

  module _ (run : Run) (handed : ℕ) (s : State) (k : Standing) (is : StandsAt past_of run handed s k old) where
    low : run.last ≤ handed
    low = omega (arith, is.writer.opened, is.writer.reached)

    split : records_between run handed (end_of run) ≡ taken ++ core_then.outbox
    split = is.rest ∙ was

    within : handed + length taken ≤ end_of run
    within = within_end run handed low taken core_then.outbox split is.writer.made

    -- what was taken comes next
    pub next : AreNext run handed taken
    next = record {
      made = within;
      small = omega (arith, within, is.made, is.shown.standing.within);
      records-are = first_behind run handed low taken core_then.outbox split;
    }

    left : records_between run (handed + length taken) (end_of run) ≡ core_then.outbox
    left = rest_behind run handed low taken core_then.outbox split

  module _ (new : EngineParts D M) (core_is : core_of new ≡ core_then) (device : device_of new ≡ device_of old)
      (halves : writer.halves_of (writer_of new) ≡ writer.halves_of (writer_of old)) (log : writer.log_of (writer_of new) ≡ writer.log_of (writer_of old))
      (horizon : horizon_of new ≡ horizon_of old) (failed : writer.has_failed (writer_of new) ≡ writer.has_failed (writer_of old))
      (image : writer.image_of (writer_of new) ≡ writer.image_of (writer_of old)) (size : new.geometry ≡ old.geometry)
      (copying : writer.copying_of (writer_of new) ≡ writer.copying_of (writer_of old)) where
    others : core_of new ≡ record (core_of old) { outbox = (core_of new).outbox }
    others = core_is ∙ hands.others ∙ ap (λ (v : CoreValue). record (core_of old) { outbox = v.outbox }) (sym core_is)

    images : (run : Run) (handed : ℕ) (s : State) (k : Standing) → StandsAt past_of run handed s k old
        → LeavesOnly (past_of (device_of old)) (past_of (device_of new)) (λ (image : CrashState). (later : ℕ) × (later ≤ end_of run)
        × LeftBy run (horizon_of old) later image)
    images run handed s k is = subst (λ d. LeavesOnly (past_of (device_of old)) (past_of d) (λ (image : CrashState). (later : ℕ) × (later ≤ end_of run)
        × LeftBy run (horizon_of old) later image)) (sym device)
        (started (past_of (device_of old)) (λ (image : CrashState). (later : ℕ) × (later ≤ end_of run)
        × LeftBy run (horizon_of old) later image) (λ c crash. (handed, is.writer.made, is.writer.images c crash)))

    outbox_is : (core_of new).outbox ≡ core_then.outbox
    outbox_is = ap (λ (v : CoreValue). v.outbox) core_is

    -- the writer took them
    pub all_over : ((run : Run) (handed : ℕ) → IsWriter past_of run handed (writer_of old) → AreNext run handed taken
        → IsWriter past_of run (handed + length taken) (writer_of new)) → writer.waiting_of (writer_of new) ≡ writer.waiting_of (writer_of old) ++ taken
        → new.outgoing.items ≡ []
        → HandsOver past_of old new
    all_over takes waits none = record {
      moves = record {
        stands = λ run handed s k is. (
          handed + length taken,
          omega arith,
          stands_with past_of run handed (handed + length taken) s k old new is others (takes run handed is.writer (next run handed s k is))
              (left run handed s k is ∙ sym (ap (λ (l : List RecordValue). l ++ (core_of new).outbox) none ∙ outbox_is)) size,
        );
        images = images;
        grows = omega (arith, horizon);
        core = others;
      };
      unwritten-are =
          ap (λ (l : List RecordValue). writer.waiting_of (writer_of new) ++ (l ++ (core_of new).outbox)) none
          ∙ ap (λ (l : List RecordValue). writer.waiting_of (writer_of new) ++ l) outbox_is
          ∙ ap (λ (l : List RecordValue). l ++ core_then.outbox) waits ∙ append_assoc (writer.waiting_of (writer_of old)) taken core_then.outbox
          ∙ ap (λ (l : List RecordValue). writer.waiting_of (writer_of old) ++ l) (sym was);
      device = device;
      halves = halves;
      log = log;
      horizon = horizon;
      failed = failed;
      image = image;
      geometry = size;
      copying = copying;
    }

    -- the writer gave them back
    pub none_over : ((run : Run) (handed : ℕ) → IsWriter past_of run handed (writer_of old) → IsWriter past_of run handed (writer_of new))
        → writer.waiting_of (writer_of new) ≡ writer.waiting_of (writer_of old) → new.outgoing.items ≡ taken
        → HandsOver past_of old new
    none_over keeps waits back = record {
      moves = record {
        stands = λ run handed s k is. (
          handed,
          omega arith,
          stands_with past_of run handed handed s k old new is others (keeps run handed is.writer) (is.rest ∙ sym now) size,
        );
        images = images;
        grows = omega (arith, horizon);
        core = others;
      };
      unwritten-are = ap (λ (l : List RecordValue). l ++ unhanded new) waits ∙ ap (λ (l : List RecordValue). writer.waiting_of (writer_of old) ++ l) now;
      device = device;
      halves = halves;
      log = log;
      horizon = horizon;
      failed = failed;
      image = image;
      geometry = size;
      copying = copying;
    }
      where
        now : unhanded new ≡ unhanded old
        now = ap (λ (l : List RecordValue). l ++ (core_of new).outbox) back ∙ ap (λ (l : List RecordValue). taken ++ l) outbox_is ∙ sym was
