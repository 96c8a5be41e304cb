-- How the flusher's part goes on from call to call.
use Rattle.std.proofs.Common.{◌≡◌, ◌⊎◌, ℕ, ◌≤◌, true, false, List, [], ◌++◌, Result, Ok, Err, OnOk, OnErr, inl, inr, refl, sym, ap, ◌∙◌, subst, arith}
use Rattle.std.proofs.Common.{append-nil, append_assoc}
use Rattle.records.specs.RecordValue.{RecordValue}
use Rattle.record_values.specs.declared.error.Error.{Error}
use Rattle.record_values.specs.declared.error.Error.TheVariants.{DeviceFailed, NoMemory}
use Rattle.core_model.specs.Histories.{Opened}
use Rattle.sector_device.specs.Disk.{CrashState}
use Rattle.sector_device.specs.DevicePast.{DevicePast, LeavesOnly, Rises}
use Rattle.sector_device.proofs.Moments.{joined, started, weaker}
use Rattle.flip_image.specs.Layout.{HalvesValue}
use Rattle.store_writer.specs.Parts.{device_of, halves_of, has_failed, synced_of, waiting_of}
use Rattle.store_writer.specs.Writer.{IsNotFlushed}
use Rattle.store_writer.specs.declared.writer.Writer.{Writer}
use Rattle.threads_flusher.proofs.Going.{counted_same, counted_then}
use Rattle.threads_flusher.proofs.Keeping.{is_left}
use Rattle.threads_flusher.proofs.Publications.{beginning_of, same_store}
use Rattle.threads_flusher.specs.Part.{FlushValue, GivesBeginning, HasGot, IsFlusher, FlushLeaves, Publishes}
use Rattle.threads_lifetime.specs.Written.{HasTaken, WritesOn}

-- ---- the part goes on

module _ {D A : Type 0} (past_of : D → DevicePast) (failures : D → ℕ) (o : Opened) where
  left_now : {marks : ℕ → ℕ → Type 0} (f : FlushValue D A) → IsFlusher past_of marks o f
      → LeavesOnly (past_of (device_of f.writer)) (past_of (device_of f.writer)) (FlushLeaves o f)
  left_now f is = started (past_of (device_of f.writer)) (FlushLeaves o f) (λ image crash. is_left past_of _ o f is image (is.writer.images image crash))

  -- by no call
  pub writes_nothing : {marks : ℕ → ℕ → Type 0} (f : FlushValue D A) → IsFlusher past_of marks o f → WritesOn past_of failures o f f
  writes_nothing f is = record {
    more = [];
    handed = sym (append-nil f.handed);
    geometry = refl;
    rises = omega arith;
    images = left_now f is;
    later = omega arith;
    counted = counted_same (has_failed f.writer) (has_failed f.writer) (failures (device_of f.writer)) (failures (device_of f.writer)) refl;
    stays = λ now. now;
    quiet = λ _. refl;
  }

  -- by records that are popped and handed in
  pub writes_by_taking : {marks : ℕ → ℕ → Type 0} (old new : FlushValue D A) → IsFlusher past_of marks o new → HasTaken old new
      → WritesOn past_of failures o old new
  writes_by_taking old new is takes = record {
    more = takes.more;
    handed = takes.handed;
    geometry = ap (λ (h : HalvesValue). h.geometry) takes.got.halves;
    rises = omega (arith, takes.got.synced);
    images =
        subst (λ (n : ℕ). LeavesOnly (past_of (device_of old.writer)) (past_of (device_of new.writer))
        (GivesBeginning o (halves_of new.writer).geometry new.handed n)) takes.got.synced
        (subst (λ (d : D). LeavesOnly (past_of d) (past_of (device_of new.writer)) (FlushLeaves o new)) takes.got.device (left_now new is));
    later = omega (arith, ap failures takes.got.device);
    counted = counted_same (has_failed old.writer) (has_failed new.writer) (failures (device_of old.writer)) (failures (device_of new.writer)) takes.got.failed;
    stays = λ now. sym takes.got.failed ∙ now;
    quiet = λ _. ap failures takes.got.device;
  }

  -- by a call of the writer
  pub writes_by_call : {marks : ℕ → ℕ → Type 0} (old new : FlushValue D A) → Publishes past_of marks old new
      → (halves_of new.writer).geometry ≡ (halves_of old.writer).geometry
      → synced_of old.writer ≤ synced_of new.writer
      → LeavesOnly (past_of (device_of old.writer)) (past_of (device_of new.writer)) (FlushLeaves o old)
      → failures (device_of old.writer) ≤ failures (device_of new.writer)
      → (has_failed new.writer ≡ true → has_failed old.writer ≡ false → Rises (failures (device_of old.writer)) (failures (device_of new.writer)))
      → (has_failed new.writer ≡ false → has_failed old.writer ≡ false)
      → (has_failed new.writer ≡ false → failures (device_of new.writer) ≡ failures (device_of old.writer)) → WritesOn past_of failures o old new
  writes_by_call old new publishes geometry rises images later counted stays quiet = record {
    more = [];
    handed = publishes.handed ∙ sym (append-nil old.handed);
    geometry = geometry;
    rises = rises;
    images = weaker (past_of (device_of old.writer)) (past_of (device_of new.writer)) (FlushLeaves o old)
        (GivesBeginning o (halves_of new.writer).geometry new.handed (synced_of old.writer))
        (λ image left. subst (λ (rs : List RecordValue). GivesBeginning o (halves_of new.writer).geometry rs (synced_of old.writer) image)
        (sym publishes.handed)
        (same_store o (halves_of old.writer).geometry (halves_of new.writer).geometry old.handed (synced_of old.writer) image geometry left)) images;
    later = later;
    counted = counted;
    stays = stays;
    quiet = quiet;
  }

  -- by one and then another
  pub writes_then : (old mid new : FlushValue D A) → WritesOn past_of failures o old mid → WritesOn past_of failures o mid new
      → WritesOn past_of failures o old new
  writes_then old mid new first second = record {
    more = first.more ++ second.more;
    handed = second.handed ∙ (ap (λ l. l ++ second.more) first.handed ∙ append_assoc old.handed first.more second.more);
    geometry = second.geometry ∙ first.geometry;
    rises = omega (arith, first.rises, second.rises);
    images =
        let P : CrashState → Type 0 = GivesBeginning o (halves_of new.writer).geometry new.handed (synced_of old.writer) in
        joined (past_of (device_of old.writer)) (past_of (device_of mid.writer)) (past_of (device_of new.writer)) P
        (weaker (past_of (device_of old.writer)) (past_of (device_of mid.writer))
        (GivesBeginning o (halves_of mid.writer).geometry mid.handed (synced_of old.writer)) P
        (λ image left. beginning_of o (halves_of new.writer).geometry mid.handed second.more new.handed (synced_of old.writer)
        (synced_of old.writer) image second.handed (omega arith)
        (same_store o (halves_of mid.writer).geometry (halves_of new.writer).geometry mid.handed (synced_of old.writer) image second.geometry left))
        first.images)
        (weaker (past_of (device_of mid.writer)) (past_of (device_of new.writer))
        (GivesBeginning o (halves_of new.writer).geometry new.handed (synced_of mid.writer)) P
        (λ image left. beginning_of o (halves_of new.writer).geometry new.handed [] new.handed (synced_of mid.writer) (synced_of old.writer) image
        (sym (append-nil new.handed)) first.rises left) second.images);
    later = omega (arith, first.later, second.later);
    counted =
        counted_then (has_failed old.writer) (has_failed mid.writer) (has_failed new.writer) (failures (device_of old.writer)) (failures (device_of mid.writer))
        (failures (device_of new.writer)) first.later second.later first.counted second.counted;
    stays = λ now. first.stays (second.stays now);
    quiet = λ now. second.quiet now ∙ first.quiet (second.stays now);
  }

-- why a call was refused
pub why_not_flushed : {D A : Type 0} (failures : D → ℕ) (old new : Writer D A) (e : Error) → IsNotFlushed failures e old new
    → (e ≡ NoMemory) ⊎ ((e ≡ DeviceFailed) × (has_failed new ≡ true))
why_not_flushed failures old new e (inl none) = inl none.0
why_not_flushed failures old new e (inr device) = inr (device.0, device.1)

-- ---- records that are taken

module _ {D A : Type 0} where
  got_none : (w : Writer D A) → HasGot [] w w
  got_none w = record { device = refl; halves = refl; log = refl; waiting = sym (append-nil (waiting_of w)); synced = refl; failed = refl; image = refl }

  pub took_none : (f : FlushValue D A) → HasTaken f f
  took_none f = record { more = []; handed = sym (append-nil f.handed); got = got_none f.writer; published = refl }

  -- some are popped
  pub took_more : (old new : FlushValue D A) (held : List RecordValue) → new ≡ record old { held = held } → HasTaken old new
  took_more old new held is = record {
    more = [];
    handed = ap (λ (f : FlushValue D A). f.handed) is ∙ sym (append-nil old.handed);
    got = subst (λ (w : Writer D A). HasGot [] old.writer w) (sym (ap (λ (f : FlushValue D A). f.writer) is)) (got_none old.writer);
    published = ap (λ (f : FlushValue D A). f.published) is;
  }

  -- what is held is handed in, or nothing is
  pub took_in : {T : Type 0} (old new : FlushValue D A) (result : Result T Error) → new.published ≡ old.published
      → OnOk result ((new.handed ≡ old.handed ++ old.held) × (new.held ≡ [])) → OnOk result (HasGot old.held old.writer new.writer)
      → OnErr result ((new.handed ≡ old.handed) × (new.held ≡ old.held)) → OnErr result (HasGot [] old.writer new.writer) → HasTaken old new
  took_in old new (Ok x) published ok got err still = record { more = old.held; handed = ok.0; got = got; published = published }
  took_in old new (Err e) published ok got err still = record { more = []; handed = err.0 ∙ sym (append-nil old.handed); got = still; published = published }

  -- and then more
  pub took_then : (old mid new : FlushValue D A) → HasTaken old mid → HasTaken mid new → HasTaken old new
  took_then old mid new first second = record {
    more = first.more ++ second.more;
    handed = second.handed ∙ (ap (λ l. l ++ second.more) first.handed ∙ append_assoc old.handed first.more second.more);
    got = record {
      device = second.got.device ∙ first.got.device;
      halves = second.got.halves ∙ first.got.halves;
      log = second.got.log ∙ first.got.log;
      waiting = second.got.waiting ∙ (ap (λ l. l ++ second.more) first.got.waiting ∙ append_assoc (waiting_of old.writer) first.more second.more);
      synced = second.got.synced ∙ first.got.synced;
      failed = second.got.failed ∙ first.got.failed;
      image = second.got.image ∙ first.got.image;
    };
    published = second.published ∙ first.published;
  }
