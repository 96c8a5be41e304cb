-- How the flusher's part goes on from call to call.
use Rattle.std.proofs.Common.{◌≡◌, ℕ, ◌<◌, ◌≤◌, Bool, true, false, List, [], ◌∷◌, ◌++◌, Result, Ok, Err}
use Rattle.std.proofs.Common.{IfErr, IfOk, OnErr, OnOk, inl, inr, refl}
use Rattle.std.proofs.Common.{sym, ap, ◌∙◌, subst, arith, append-nil, append_assoc}
use Rattle.std.proofs.lemmas.Bool.{false≢true}
use Rattle.std.proofs.lemmas.List.Elements.{All-append, All-cons, All-nil, All-weaker}
use Rattle.records.specs.RecordValue.{RecordValue}
use Rattle.record_values.specs.declared.error.Error.{Error}
use Rattle.core_model.specs.Histories.{Opened}
use Rattle.sector_device.specs.Disk.{CrashState}
use Rattle.sector_device.specs.DevicePast.{DevicePast, LeavesOnly, Rises}
use Rattle.sector_device.proofs.Counts.{rises_later}
use Rattle.sector_device.proofs.Moments.{joined, started, weaker}
use Rattle.board.specs.Views.{FlusherCount}
use Rattle.flip_image.specs.Layout.{HalvesValue}
use Rattle.store_image_model.specs.declared.chunk.Piece.{Piece}
use Rattle.store_writer.specs.Parts.{device_of, halves_of, has_failed, synced_of}
use Rattle.store_writer.specs.Writer.{HasFailed, IsAsBefore, IsFlipReply, IsNotFlushed, IsStepReply}
use Rattle.store_writer.specs.declared.writer.FlipReply.{FlipReply}
use Rattle.store_writer.specs.declared.writer.FlipReply.TheVariants.{Flipped, Behind}
use Rattle.store_writer.specs.declared.writer.StepReply.{StepReply}
use Rattle.store_writer.specs.declared.writer.StepReply.TheVariants.{Taken, StartAgain}
use Rattle.store_writer.specs.declared.writer.Writer.{Writer}
use Rattle.store_writer.specs.declared.copying.Copying.{Copying}
use Rattle.threads_flusher.specs.Going.{GoesOn, LeavesImage, TakesIn}
use Rattle.threads_flusher.specs.Part.{FlushValue, GivesBeginning, IsFlusher, FlushLeaves, Publication, Publishes, popped_by, publication_of}
use Rattle.threads_flusher.proofs.Keeping.{is_left}
use Rattle.threads_flusher.proofs.Publications.{beginning_of, same_store}

-- ---- the store is the same

module _ {D A : Type 0} (old new : Writer D A) where
  same_geometry : new ≡ old → (halves_of new).geometry ≡ (halves_of old).geometry
  same_geometry is = ap (λ (w : Writer D A). (halves_of w).geometry) is

  left_geometry : IsAsBefore old new → (halves_of new).geometry ≡ (halves_of old).geometry
  left_geometry is = ap (λ (w : Writer D A). (halves_of w).geometry) is

  pub step_geometry : {A : Type 0} (number : ℕ) (piece : Piece A) (result : Result StepReply Error)
      → IfOk result (λ reply. IsStepReply number piece reply old new) → OnErr result (IsAsBefore old new) → (halves_of new).geometry ≡ (halves_of old).geometry
  step_geometry number piece (Ok Taken) is left = ap (λ (h : HalvesValue). h.geometry) is.1.1.1
  step_geometry number piece (Ok StartAgain) is left = ap (λ (w : Writer D _). (halves_of w).geometry) is.0
  step_geometry number piece (Err e) is left = left_geometry left

  pub flip_geometry : (n : ℕ) (result : Result FlipReply Error) → IfOk result (λ reply. IsFlipReply n reply old new) → OnErr result (IsAsBefore old new)
      → (halves_of new).geometry ≡ (halves_of old).geometry
  flip_geometry n (Ok (Flipped m)) is left = ap (λ (h : HalvesValue). h.geometry) is.5.halves-are
  flip_geometry n (Ok Behind) is left = same_geometry is.0
  flip_geometry n (Err e) is left = left_geometry left

-- ---- a failure is counted

-- where the device failed in this call
abbrev Counts : (old new : Bool) → (before now : ℕ) → Type 0
Counts old new before now = new ≡ true → old ≡ false → Rises before now

rises_up : (a b c : ℕ) → b ≤ c → Rises a b → Rises a c
rises_up a b c le rises below = let up : a < b = rises below in omega (arith, le, up)

pub counted_then : (old mid new : Bool) (a b c : ℕ) → a ≤ b → b ≤ c → Counts old mid a b → Counts mid new b c → Counts old new a c
counted_then old true new a b c low high first second = λ now before. rises_up a b c high (first refl before)
counted_then old false new a b c low high first second = λ now before. rises_later a b c low high (second now refl)

-- it did not fail
pub counted_same : (old new : Bool) (a b : ℕ) → new ≡ old → Counts old new a b
counted_same old new a b same now before = absurd (false≢true (sym before ∙ sym same ∙ now))

module _ {D A : Type 0} (failures : D → ℕ) (old new : Writer D A) where
  pub counted_by_flush : {T : Type 0} (result : Result T Error) → OnOk result ((has_failed old ≡ false) × (has_failed new ≡ false))
      → IfErr result (λ e. IsNotFlushed failures e old new)
      → has_failed new ≡ true → has_failed old ≡ false → Rises (failures (device_of old)) (failures (device_of new))
  counted_by_flush (Ok x) sound err now before = absurd (false≢true (sym sound.1 ∙ now))
  counted_by_flush (Err e) sound (inl none) now before = absurd (false≢true (sym before ∙ (ap (λ (w : Writer D A). has_failed w) (sym none.4) ∙ now)))
  counted_by_flush (Err e) sound (inr failed) now before = (failed.2 before).1

  pub counted_by_call : {T : Type 0} (result : Result T Error) → OnOk result ((has_failed old ≡ false) × (has_failed new ≡ false))
      → IfErr result (λ e. HasFailed failures e old new)
      → has_failed new ≡ true → has_failed old ≡ false → Rises (failures (device_of old)) (failures (device_of new))
  counted_by_call (Ok x) sound err now before = absurd (false≢true (sym sound.1 ∙ now))
  counted_by_call (Err e) sound failed now before = failed.2 before

  -- and where it did not fail, none is
  pub quiet_by_flush : {T : Type 0} (result : Result T Error) → OnOk result (failures (device_of new) ≡ failures (device_of old))
      → IfErr result (λ e. IsNotFlushed failures e old new) → has_failed new ≡ false → failures (device_of new) ≡ failures (device_of old)
  quiet_by_flush (Ok x) quiet err sound = quiet
  quiet_by_flush (Err e) quiet (inl none) sound = ap (λ (w : Writer D A). failures (device_of w)) none.4
  quiet_by_flush (Err e) quiet (inr failed) sound = absurd (false≢true (sym sound ∙ failed.1))

  pub quiet_by_call : {T : Type 0} (result : Result T Error) → OnOk result (failures (device_of new) ≡ failures (device_of old))
      → IfErr result (λ e. HasFailed failures e old new) → has_failed new ≡ false → failures (device_of new) ≡ failures (device_of old)
  quiet_by_call (Ok x) quiet err sound = quiet
  quiet_by_call (Err e) quiet failed sound = absurd (false≢true (sym sound ∙ failed.1))

-- ---- the part goes on

module _ {D A : Type 0} (past_of : D → DevicePast) (failures : D → ℕ) (o : Opened) where
  -- it was published no earlier than in this state
  abbrev IsSince : FlushValue D A → Publication → Type 0
  IsSince f p = (past_of (device_of f.writer)).moment ≤ p.moment

  -- by no call
  pub goes_nowhere : {marks : ℕ → ℕ → Type 0} (f : FlushValue D A) → IsFlusher past_of marks o f → GoesOn past_of failures o f f
  goes_nowhere f is = record {
    popped = [];
    popped-are = sym (append-nil (popped_by f));
    more = [];
    handed = sym (append-nil f.handed);
    since = [];
    publications = sym (append-nil f.publications);
    behind = All-nil (IsSince f);
    geometry = refl;
    rises = omega arith;
    horizon = omega arith;
    images = started (past_of (device_of f.writer)) (FlushLeaves o f) (λ image crash. is_left past_of _ o f is image (is.writer.images image crash));
    later = omega arith;
    counted = counted_same (has_failed f.writer) (has_failed f.writer) (failures (device_of f.writer)) (failures (device_of f.writer)) refl;
    stays = λ now. now;
    quiet = λ _. refl;
  }

  -- as an image is given up, or forgotten
  pub goes_by_leaving : {marks : ℕ → ℕ → Type 0} (copying : Copying) (old new : FlushValue D A) → IsFlusher past_of marks o old
      → LeavesImage copying old new → GoesOn past_of failures o old new
  goes_by_leaving copying old new is leaves =
      let here = goes_nowhere old is in
      subst (GoesOn past_of failures o old) (sym leaves) (record {
        popped = here.popped;
        popped-are = here.popped-are;
        more = here.more;
        handed = here.handed;
        since = here.since;
        publications = here.publications;
        behind = here.behind;
        geometry = here.geometry;
        rises = here.rises;
        horizon = here.horizon;
        images = here.images;
        later = here.later;
        counted = here.counted;
        stays = here.stays;
        quiet = here.quiet;
      })

  -- by records that are popped and handed in
  pub goes_by_taking : {marks : ℕ → ℕ → Type 0} (old new : FlushValue D A) → IsFlusher past_of marks o new → TakesIn old new
      → GoesOn past_of failures o old new
  goes_by_taking old new is takes = record {
    popped = takes.popped;
    popped-are = takes.popped-are;
    more = takes.more;
    handed = takes.handed;
    since = [];
    publications = takes.publications ∙ sym (append-nil old.publications);
    behind = All-nil (IsSince old);
    geometry = ap (λ (h : HalvesValue). h.geometry) takes.got.halves;
    rises = omega (arith, takes.got.synced);
    horizon = omega (arith, ap (λ (c : FlusherCount). c.horizon) takes.published);
    images =
        subst (λ (n : ℕ). LeavesOnly (past_of (device_of old.writer)) (past_of (device_of new.writer))
        (GivesBeginning o (halves_of new.writer).geometry new.handed n)) takes.got.synced
        (subst (λ (d : D). LeavesOnly (past_of d) (past_of (device_of new.writer)) (FlushLeaves o new)) takes.got.device
        (started (past_of (device_of new.writer)) (FlushLeaves o new) (λ image crash. is_left past_of _ o new is image (is.writer.images image crash))));
    later = omega (arith, ap failures takes.got.device);
    counted = counted_same (has_failed old.writer) (has_failed new.writer) (failures (device_of old.writer)) (failures (device_of new.writer)) takes.got.failed;
    stays = λ now. sym takes.got.failed ∙ now;
    quiet = λ _. ap failures takes.got.device;
  }

  -- by a call of the writer
  pub goes_by_call : {marks : ℕ → ℕ → Type 0} (old new : FlushValue D A) → old.published.horizon ≤ synced_of old.writer → Publishes past_of marks old new
      → (halves_of new.writer).geometry ≡ (halves_of old.writer).geometry → synced_of old.writer ≤ synced_of new.writer
      → LeavesOnly (past_of (device_of old.writer)) (past_of (device_of new.writer)) (FlushLeaves o old)
      → failures (device_of old.writer) ≤ failures (device_of new.writer)
      → (has_failed new.writer ≡ true → has_failed old.writer ≡ false → Rises (failures (device_of old.writer)) (failures (device_of new.writer)))
      → (has_failed new.writer ≡ false → has_failed old.writer ≡ false)
      → (has_failed new.writer ≡ false → failures (device_of new.writer) ≡ failures (device_of old.writer)) → GoesOn past_of failures o old new
  goes_by_call old new low publishes geometry rises images later counted stays quiet = record {
    popped = [];
    popped-are = ap (λ l. l ++ new.held) publishes.handed ∙ ap (λ l. old.handed ++ l) publishes.held ∙ sym (append-nil (popped_by old));
    more = [];
    handed = publishes.handed ∙ sym (append-nil old.handed);
    since = publication_of past_of new.writer ∷ [];
    publications = publishes.noted;
    behind = All-cons (IsSince old) (publication_of past_of new.writer) [] images.later (All-nil (IsSince old));
    geometry = geometry;
    rises = rises;
    horizon = omega (arith, low, rises, ap (λ (c : FlusherCount). c.horizon) publishes.published);
    images = weaker (past_of (device_of old.writer)) (past_of (device_of new.writer)) (FlushLeaves o old)
        (GivesBeginning o (halves_of new.writer).geometry new.handed (synced_of old.writer))
        (λ image left. subst (λ (rs : List RecordValue). GivesBeginning o (halves_of new.writer).geometry rs (synced_of old.writer) image)
        (sym publishes.handed)
        (same_store o (halves_of old.writer).geometry (halves_of new.writer).geometry old.handed (synced_of old.writer) image geometry left)) images;
    later = later;
    counted = counted;
    stays = stays;
    quiet = quiet;
  }

  -- by one and then another
  pub goes_then : (old mid new : FlushValue D A) → GoesOn past_of failures o old mid → GoesOn past_of failures o mid new → GoesOn past_of failures o old new
  goes_then old mid new first second = record {
    popped = first.popped ++ second.popped;
    popped-are = second.popped-are ∙ ap (λ l. l ++ second.popped) first.popped-are ∙ append_assoc (popped_by old) first.popped second.popped;
    more = first.more ++ second.more;
    handed = second.handed ∙ ap (λ l. l ++ second.more) first.handed ∙ append_assoc old.handed first.more second.more;
    since = first.since ++ second.since;
    publications = second.publications ∙ ap (λ l. l ++ second.since) first.publications ∙ append_assoc old.publications first.since second.since;
    behind = All-append (IsSince old) first.since second.since first.behind
        (All-weaker (IsSince mid) (IsSince old) (λ p late. omega (arith, late, first.images.later)) second.since second.behind);
    geometry = second.geometry ∙ first.geometry;
    rises = omega (arith, first.rises, second.rises);
    horizon = omega (arith, first.horizon, second.horizon);
    images =
        let P : CrashState → Type 0 = GivesBeginning o (halves_of new.writer).geometry new.handed (synced_of old.writer) in
        joined (past_of (device_of old.writer)) (past_of (device_of mid.writer)) (past_of (device_of new.writer)) P
        (weaker (past_of (device_of old.writer)) (past_of (device_of mid.writer))
        (GivesBeginning o (halves_of mid.writer).geometry mid.handed (synced_of old.writer)) P
        (λ image left. beginning_of o (halves_of new.writer).geometry mid.handed second.more new.handed (synced_of old.writer)
        (synced_of old.writer) image second.handed (omega arith)
        (same_store o (halves_of mid.writer).geometry (halves_of new.writer).geometry mid.handed (synced_of old.writer) image second.geometry left))
        first.images)
        (weaker (past_of (device_of mid.writer)) (past_of (device_of new.writer))
        (GivesBeginning o (halves_of new.writer).geometry new.handed (synced_of mid.writer)) P
        (λ image left. beginning_of o (halves_of new.writer).geometry new.handed [] new.handed (synced_of mid.writer) (synced_of old.writer) image
        (sym (append-nil new.handed)) first.rises left) second.images);
    later = omega (arith, first.later, second.later);
    counted = counted_then (has_failed old.writer) (has_failed mid.writer) (has_failed new.writer) (failures (device_of old.writer))
        (failures (device_of mid.writer)) (failures (device_of new.writer)) first.later second.later first.counted second.counted;
    stays = λ now. first.stays (second.stays now);
    quiet = λ now. second.quiet now ∙ first.quiet (second.stays now);
  }
