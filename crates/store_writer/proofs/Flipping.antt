-- What a flip leaves.
use Rattle.std.proofs.Common.{◌≡◌, inl, inr, ⊎_elim, ℕ, ◌+◌, ◌-◌, ◌≤◌, false, true, List, length, drop, length-drop, Option, Some, None, IfSome, Vec, sym, ap}
use Rattle.std.proofs.Common.{subst, ◌∙◌, arith}
use Rattle.std.proofs.Common.{Result, Ok, Err, IfErr}
use Rattle.std.specs.Result.{is_err}
use Rattle.std.proofs.lemmas.Bool.{false≢true}
use Rattle.sector_device.specs.Disk.{CrashState, sector, IsSynced, SameOutside}
use Rattle.sector_device.specs.DevicePast.{DevicePast, LeavesOnly, Rises}
use Rattle.sector_device.proofs.Moments.{weaker}
use Rattle.sector_device.proofs.Sectors.{crash_synced, same_outside_wider}
use Rattle.record_values.specs.GeometryValue.{GeometryValue}
use Rattle.record_values.specs.declared.error.Error.{Error}
use Rattle.records.specs.RecordValue.{RecordValue}
use Rattle.model.specs.Following.{AreFollowing}
use Rattle.model.specs.Cells.{cells_after}
use Rattle.gate_log.specs.Area.{Area, Log, InArea, HoldsGroups, Stands}
use Rattle.gate_log.proofs.Readings.{told_by_its_sectors}
use Rattle.flip_image.specs.declared.half.Half.{Half}
use Rattle.flip_image.specs.Layout.{HalvesValue, other, InHalf, InHalfImage}
use Rattle.flip_image.specs.Store.{Names, IsDeviceFailure, IsSuperblock, IsStore, IsFlipping}
use Rattle.flip_image.proofs.Sides.{behind_front, image_inside, log_inside, either_store}
use Rattle.store_image_model.specs.Run.{Run, IsRun, end_of, cells_at, records_between}
use Rattle.store_image_model.proofs.Runs.{redone, redone_following}
use Rattle.store_reader.specs.Contents.{log_area}
use Rattle.store_writer.specs.declared.writer.Writer.{Writer}
use Rattle.store_writer.specs.declared.image.NewImage.{NewImage}
use Rattle.store_writer.specs.Contents.{HalfHas, LeftBy}
use Rattle.store_writer.specs.declared.copying.Copying.{Copying}
use Rattle.store_writer.specs.declared.copying.Copying.TheVariants.{Idle}
use Rattle.store_writer.specs.Copying.{IsCopying}
use Rattle.store_writer.specs.declared.image.Stage.TheVariants.{Whole}
use Rattle.store_writer.specs.Image.{IsImageWhole, IsContent, IsUnderway, reach}
use Rattle.store_writer.specs.Writer.{CanFlip, StandsFor, IsWriter}
use Rattle.store_writer.proofs.Numbers.{back_between, last_between, length_between}
use Rattle.store_writer.proofs.Halves.{in_from_outside, half_apart}
use Rattle.store_writer.specs.Known.{KnowsPages}
use Rattle.store_writer.specs.Parts.{handed_of}
use Rattle.store_writer.proofs.Knowing.{pages_in}
use Rattle.store_writer.proofs.KnownPages.{known_flipped}
use Rattle.store_writer.proofs.Opening.{waits_all}
use Rattle.store_writer.proofs.Taking.{stand, left_kept}
use Rattle.store_writer.proofs.Left.{left_by}

-- An image whose log reaches its last step gives the cells after the last record of that log.
pub underway_has : (run : Run) (half : Half) (image : CrashState) (synced : ℕ) (new : NewImage) → IsRun run → IsUnderway run half image synced new
    → new.stage ≡ Whole → new.number ≤ reach new synced → reach new synced ≤ end_of run
    → HalfHas run.geometry half image (reach new synced) (cells_at run (reach new synced))
underway_has run half image synced new is there whole up made = let content : IsImageWhole run half image new.base new.number =
    subst (IsContent run half image new.base new.number) whole there.content in record {
      base = new.base;
      copied = content.copied;
      imaged = content.imaged;
      groups = there.groups;
      held = subst (λ (a : Area). HoldsGroups a image there.groups) there.area-is there.stands.held;
      following = subst (AreFollowing run.geometry.pages new.base content.copied) (sym there.carried)
          (redone_following run new.base new.number (reach new synced) content.copied content.copies is there.low (omega (arith, there.rise, up, made)));
      last-is = sym (last_between run new.base (reach new synced) there.low (omega arith) made)
          ∙ ap (λ (rs : List RecordValue). new.base + length rs) (sym there.carried);
      cells-are = sym (ap (cells_after content.copied) there.carried
          ∙ redone run new.base new.number (reach new synced) content.copied content.copies there.low (omega arith) up);
    }

module _ {D M : Type 0} (past_of : D → DevicePast) (run : Run) (handed : ℕ) (old : Writer D M) (is : IsWriter past_of run handed old)
    (sound : old.failed ≡ false)
    (image : NewImage) (there : IsUnderway run (other old.halves.current) (past_of old.device).disk.content old.synced image) (whole : image.stage ≡ Whole)
    (reaches : image.number ≤ reach image old.synced) (within : image.number ≤ handed) where
  abbrev content : CrashState
  content = (past_of old.device).disk.content

  abbrev g : GeometryValue
  g = run.geometry

  abbrev from : Half
  from = old.halves.current

  abbrev to : Half
  to = other old.halves.current

  abbrev n : ℕ
  n = reach image old.synced

  pub up : old.synced ≤ n
  up = omega arith

  pub handed_in : n ≤ handed
  handed_in = omega (arith, is.reached, within, there.rise)

  not_front : (half : Half) (k : ℕ) → InHalf g half k → ¬ (k ≡ 1)
  not_front half k inside is_flip = omega (arith, is_flip, behind_front g half k inside)

  -- the other half has the cells after the last record of its log
  other_has : (c : CrashState) → SameOutside (λ k. k ≡ 1) content c → HalfHas g to c n (cells_at run n)
  other_has c same = half_apart g to content c (in_from_outside (InHalf g to) _ content c (not_front to) same) n (cells_at run n)
      (underway_has run to content old.synced image is.run-is there whole reaches (omega (arith, handed_in, is.made)))

  this_has : (c : CrashState) → SameOutside (λ k. k ≡ 1) content c → HalfHas g from c old.synced (cells_at run old.synced)
  this_has c same = half_apart g from content c (in_from_outside (InHalf g from) _ content c (not_front from) same) old.synced (cells_at run old.synced)
      (stand past_of run handed old is sound).has

  left_flipping : (c : CrashState) → IsFlipping (past_of old.device).disk c → LeftBy run old.synced handed c
  left_flipping c (inl loose) = left_kept past_of run handed old is sound c
      (same_outside_wider _ (InHalf g to) content c (λ k unsynced. image_inside g to k ((stand past_of run handed old is sound).loose k unsynced)) loose)
  left_flipping c (inr same) = ⊎_elim
      (λ store. left_by run old.synced handed old.synced c (omega arith) is.reached (record { half = from; store = store; has = this_has c same }))
      (λ store. left_by run old.synced handed n c up handed_in (record { half = to; store = store; has = other_has c same }))
      (either_store g from content c same (stand past_of run handed old is sound).store)

  pub leaves_flipping : (new : DevicePast) → LeavesOnly (past_of old.device) new (IsFlipping (past_of old.device).disk)
      → LeavesOnly (past_of old.device) new (LeftBy run old.synced handed)
  leaves_flipping new run_ = weaker (past_of old.device) new (IsFlipping (past_of old.device).disk) (LeftBy run old.synced handed) left_flipping run_

  -- the flip was done
  module _ (new : Writer D M) (halves_is : new.halves ≡ record { geometry = old.halves.geometry; current = to }) (log_is : new.log ≡ image.log)
      (synced_is : new.synced ≡ n) (waiting_is : new.waiting ≡ drop (n - old.synced) old.waiting) (none : new.image ≡ None)
      (idle : new.copying ≡ Idle) (changed_is : new.known.changed ≡ old.known.changed) (here_is : new.known.current ≡ Some image.base)
      (there_is : new.known.other ≡ old.known.current)
      (same : SameOutside (λ k. k ≡ 1) content (past_of new.device).disk.content) (named : Names (sector (past_of new.device).disk.content 1) to)
      (all : IsSynced (past_of new.device).disk) where
    abbrev now : CrashState
    now = (past_of new.device).disk.content

    current_is : new.halves.current ≡ to
    current_is = ap (λ (h : HalvesValue). h.current) halves_is

    store_now : IsStore g to now
    store_now =
        let store = (stand past_of run handed old is sound).store in
        record {
          limits = store.limits;
          room = omega (arith, store.room, same.sectors);
          superblock-is = subst (IsSuperblock g) (sym (same.same 0 (λ e. omega (arith, e)))) store.superblock-is;
          current = named;
        }

    log_now : Stands image.log now there.groups
    log_now = record {
      held = told_by_its_sectors image.log.area content now there.groups same.sectors (λ k inside.
          same.same k (not_front to k (log_inside g to k (subst (λ (a : Area). InArea a k) there.area-is inside)))) there.stands.held;
      counted = there.stands.counted;
    }

    -- what is known of pages
    known_there : KnowsPages run to now (handed_of old) old.known.changed.items (Some image.base) old.known.current
    known_there =
        let content_is : IsImageWhole run to content image.base image.number =
        subst (IsContent run to content image.base image.number) whole there.content in
        known_flipped run from content now (handed_of old) image.base image.number content_is.copied old.known.changed.items old.known.current old.known.other
        there.low there.rise (omega (arith, within, waits_all past_of run handed old is)) content_is.imaged content_is.copies
        (pages_in g from content now (in_from_outside (InHalfImage g from) _ content now (λ k inside. not_front from k (image_inside g from k inside)) same))
        (pages_in g to content now (in_from_outside (InHalfImage g to) _ content now (λ k inside. not_front to k (image_inside g to k inside)) same))
        (stand past_of run handed old is sound).known

    handed_now : handed_of old ≡ handed_of new
    handed_now = omega (
      arith,
      synced_is,
      ap length waiting_is,
      length-drop (n - old.synced) old.waiting,
      waits_all past_of run handed old is,
      up,
      handed_in,
    )

    known_now : KnowsPages run new.halves.current now (handed_of new) new.known.changed.items new.known.current new.known.other
    known_now = subst (λ (h : Half). KnowsPages run h now (handed_of new) new.known.changed.items new.known.current new.known.other) (sym current_is)
        (subst (λ (v : Vec ℕ M). KnowsPages run to now (handed_of new) v.items new.known.current new.known.other) (sym changed_is)
        (subst (λ (o : Option ℕ). KnowsPages run to now (handed_of new) old.known.changed.items o new.known.other) (sym here_is)
        (subst (λ (o : Option ℕ). KnowsPages run to now (handed_of new) old.known.changed.items (Some image.base) o) (sym there_is)
        (subst (λ k. KnowsPages run to now k old.known.changed.items (Some image.base) old.known.current) handed_now known_there))))

    stood_now : StandsFor past_of run new
    stood_now = record {
      store = subst (λ (h : Half). IsStore g h now) (sym current_is) store_now;
      has = subst (λ k. HalfHas g new.halves.current now k (cells_at run k)) (sym synced_is)
          (subst (λ (h : Half). HalfHas g h now n (cells_at run n)) (sym current_is) (other_has now same));
      area-is = ap (λ (l : Log). l.area) log_is ∙ there.area-is ∙ ap (log_area g) (sym current_is);
      groups = there.groups;
      stands = subst (λ (l : Log). Stands l now there.groups) (sym log_is) log_now;
      loose = λ k unsynced. absurd (false≢true (sym (all k) ∙ unsynced));
      image = subst (λ (t : Option NewImage). IfSome t (IsUnderway run (other new.halves.current) now new.synced)) (sym none) tt;
      copying = subst (λ (at : Copying). IsCopying g.pages at new.image) (sym idle) none;
      known = known_now;
    }

    pub flipped_one : IsWriter past_of run handed new
    flipped_one = record {
      run-is = is.run-is;
      geometry-is = ap (λ (h : HalvesValue). h.geometry) halves_is ∙ is.geometry-is;
      opened = omega (arith, is.opened, synced_is, up);
      reached = omega (arith, synced_is, handed_in);
      made = is.made;
      small = is.small;
      waits = waiting_is ∙ ap (drop (n - old.synced)) is.waits
          ∙ back_between run old.synced handed is.opened is.reached is.made (n - old.synced) (omega (arith, handed_in))
          ∙ ap (λ k. records_between run k handed) (let e : old.synced + (n - old.synced) ≡ new.synced = omega (arith, up, synced_is) in e);
      holds = λ _. stood_now;
      images = λ image crash.
          let is_now : image ≡ now = crash_synced (past_of new.device).disk image all crash in
          subst (LeftBy run new.synced handed) (sym is_now) (left_by run new.synced handed n now (omega (arith, synced_is)) handed_in
          (record { half = to; store = store_now; has = other_has now same }));
    }

-- ---- whether it can be made current

pub no_image : {D M : Type 0} (w : Writer D M) (handed : ℕ) → w.image ≡ None → ¬ CanFlip handed w
no_image w handed none (image, there, _, _, _) = let never : Some image ≡ None = sym there ∙ none in cc never

pub not_whole : {D M : Type 0} (w : Writer D M) (handed : ℕ) (image : NewImage) → w.image ≡ Some image → ¬ (image.stage ≡ Whole) → ¬ CanFlip handed w
not_whole w handed image is part (found, there, whole, _, _) =
    let same : image ≡ found = cc (is, there) in part (ap (λ (x : NewImage). x.stage) same ∙ whole)

-- the image of a writer that stands is under way
pub there_at : {D M : Type 0} (past_of : D → DevicePast) (run : Run) (handed : ℕ) (old : Writer D M) → IsWriter past_of run handed old → old.failed ≡ false
    → (image : NewImage) → old.image ≡ Some image → IsUnderway run (other old.halves.current) (past_of old.device).disk.content old.synced image
there_at past_of run handed old is sound image there =
    subst (λ (t : Option NewImage). IfSome t (IsUnderway run (other old.halves.current) (past_of old.device).disk.content old.synced)) there
    (is.holds sound).image

pub rises_then : {T : Type 0} (before after : ℕ) (r : Result T Error) → is_err r ≡ true → IfErr r (IsDeviceFailure before after) → Rises before after
rises_then before after (Ok x) err failed = absurd (false≢true err)
rises_then before after (Err e) err failed = failed.1
