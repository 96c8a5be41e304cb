-- The records above an image's base are carried on behind a group that was added to the current half's log.
use Rattle.std.proofs.Common.{◌≡◌, ℕ, ◌+◌, ◌≤◌, true, length, take, drop, Option, Some, IfSome, sym, ap, subst, ◌∙◌, arith, length-drop, length-take}
use Rattle.std.proofs.lemmas.Bool.{false≢true}
use Rattle.sector_device.specs.Disk.{CrashState, IsSynced, SameOutside}
use Rattle.sector_device.specs.DevicePast.{DevicePast, LeavesOnly}
use Rattle.sector_device.proofs.Moments.{weaker, at_end}
use Rattle.sector_device.proofs.Sectors.{crash_synced, same_outside_wider}
use Rattle.record_values.specs.GeometryValue.{GeometryValue}
use Rattle.gate_log.specs.Area.{Area, Log, InArea, IsAreaInside, Stands}
use Rattle.gate_log.proofs.Readings.{told_by_its_sectors}
use Rattle.flip_image.specs.declared.half.Half.{Half}
use Rattle.flip_image.specs.Layout.{HalvesValue, other, InHalf, InHalfImage}
use Rattle.flip_image.specs.Store.{IsStore}
use Rattle.flip_image.proofs.Sides.{other_apart, log_inside, parts_apart}
use Rattle.store_image_model.specs.Run.{Run, cells_at, records_between}
use Rattle.store_reader.specs.Contents.{log_area}
use Rattle.store_writer.specs.declared.writer.Writer.{Writer}
use Rattle.store_writer.specs.declared.copying.Copying.{Copying}
use Rattle.store_writer.specs.declared.image.NewImage.{NewImage}
use Rattle.store_writer.specs.declared.known.KnownPages.{KnownPages}
use Rattle.store_writer.specs.Contents.{HalfHas, LeftBy}
use Rattle.store_writer.specs.Known.{KnowsPages, SamePages}
use Rattle.store_writer.specs.Parts.{handed_of}
use Rattle.store_writer.specs.Copying.{IsCopying}
use Rattle.store_writer.specs.Image.{IsUnderway, InNewLog, StaysAtStage}
use Rattle.store_writer.specs.Writer.{StandsFor, IsWriter, HasAppended}
use Rattle.store_writer.proofs.Numbers.{front_between, back_between, length_between}
use Rattle.store_writer.proofs.Halves.{SameIn, in_from_outside, half_apart, store_apart, log_room}
use Rattle.store_writer.proofs.Knowing.{known_apart, pages_beside, pages_in}
use Rattle.store_writer.proofs.Underway.{new_log_in_half, new_log_in_log}
use Rattle.store_writer.proofs.Places.{kept_copying}
use Rattle.store_writer.proofs.Left.{left_by}

module _ {D M : Type 0} (past_of : D → DevicePast) (run : Run) (handed count : ℕ) (w : Writer D M) (is : HasAppended past_of run handed count w) where
  abbrev content : CrashState
  content = (past_of w.device).disk.content

  abbrev g : GeometryValue
  g = run.geometry

  abbrev half : Half
  half = w.halves.current

  -- ---- what is asked of a call of `carry`

  pub long : length (take count w.waiting) ≡ count
  long = omega (
    arith,
    length-take count w.waiting,
    ap length is.waits,
    length_between run w.synced handed is.opened (omega (arith, is.within)) is.made,
    is.within,
  )

  pub group_between : take count w.waiting ≡ records_between run w.synced (w.synced + length (take count w.waiting))
  group_between = ap (take count) is.waits ∙ front_between run w.synced handed is.opened (omega (arith, is.within)) is.made count (omega (arith, is.within))
      ∙ ap (λ n. records_between run w.synced (w.synced + n)) (sym long)

  pub log_inside_disk : (i : NewImage) → w.image ≡ Some i → IsAreaInside i.log.area content
  log_inside_disk i there =
      let new : IsUnderway run (other half) content w.synced i =
      subst (λ (o : Option NewImage). IfSome o (IsUnderway run (other half) content w.synced)) there is.image in
      subst (λ (a : Area). IsAreaInside a content) (sym new.area-is) (omega (arith, is.store.room, log_room g (other half)))

  -- ---- what is written there changes nothing that the device gives

  module _ (c : CrashState) (same : SameOutside (InNewLog w.image) content c) where
    in_other : SameOutside (InHalf g (other half)) content c
    in_other = same_outside_wider _ (InHalf g (other half)) content c (λ n inside.
        new_log_in_half run (other half) content w.synced n w.image is.image inside) same

    store_there : IsStore g half c
    store_there = store_apart g half (other half) content c in_other is.store

    half_there : SameIn (InHalf g half) content c
    half_there = in_from_outside (InHalf g half) _ content c (other_apart g half) in_other

    has_there : HalfHas g half c (w.synced + count) (cells_at run (w.synced + count))
    has_there = half_apart g half content c half_there (w.synced + count) (cells_at run (w.synced + count)) is.has

    stands_there : Stands w.log c is.groups
    stands_there = record {
      held = told_by_its_sectors w.log.area content c is.groups half_there.sectors (λ n inside.
          half_there.same n (log_inside g half n (subst (λ (a : Area). InArea a n) is.area-is inside))) is.stands.held;
      counted = is.stands.counted;
    }

    left_there : (floor : ℕ) → floor ≤ w.synced + count → LeftBy run floor handed c
    left_there floor least = left_by run floor handed (w.synced + count) c least is.within (record { half = half; store = store_there; has = has_there })

  pub leaves_there : (new : DevicePast) → LeavesOnly (past_of w.device) new (SameOutside (InNewLog w.image) content)
      → LeavesOnly (past_of w.device) new (LeftBy run w.synced handed)
  leaves_there new run_ = weaker (past_of w.device) new (SameOutside (InNewLog w.image) content) (LeftBy run w.synced handed) (λ c same.
      left_there c same w.synced (omega arith)) run_

  -- it was done
  module _ (new : Writer D M) (halves_is : new.halves ≡ w.halves) (log_is : new.log ≡ w.log) (synced_is : new.synced ≡ w.synced + count)
      (waiting_is : new.waiting ≡ drop count w.waiting)
      (same : SameOutside (InNewLog w.image) content (past_of new.device).disk.content) (all : IsSynced (past_of new.device).disk)
      (image : IfSome new.image (IsUnderway run (other half) (past_of new.device).disk.content (w.synced + length (take count w.waiting))))
      (copying_is : new.copying ≡ w.copying) (stays : StaysAtStage w.image new.image) (known_is : new.known ≡ w.known) where
    abbrev now : CrashState
    now = (past_of new.device).disk.content

    -- what is known of pages
    handed_new : handed_of w ≡ handed_of new
    handed_new = omega (
      arith,
      synced_is,
      ap length waiting_is,
      length-drop count w.waiting,
      length-take count w.waiting,
      long,
    )

    other_there : SamePages g (other half) content now
    other_there = pages_in g (other half) content now (in_from_outside (InHalfImage g (other half)) _ content now (λ n inside log.
        parts_apart g (other half) n inside (new_log_in_log run (other half) content w.synced n w.image is.image log)) same)

    known_new : KnowsPages run new.halves.current now (handed_of new) new.known.changed.items new.known.current new.known.other
    known_new = subst (λ (h : HalvesValue). KnowsPages run h.current now (handed_of new) new.known.changed.items new.known.current new.known.other)
        (sym halves_is)
        (subst (λ (k : KnownPages M). KnowsPages run half now (handed_of new) k.changed.items k.current k.other) (sym known_is)
        (subst (λ k. KnowsPages run half now k w.known.changed.items w.known.current w.known.other) handed_new
        (known_apart run half content now (handed_of w) w.known.changed.items w.known.current w.known.other
        (pages_beside g half content now (in_other now same)) other_there is.known)))

    stood_new : StandsFor past_of run new
    stood_new = record {
      store = subst (λ (h : HalvesValue). IsStore g h.current now) (sym halves_is) (store_there now same);
      has = subst (λ n. HalfHas g new.halves.current now n (cells_at run n)) (sym synced_is)
          (subst (λ (h : HalvesValue). HalfHas g h.current now (w.synced + count) (cells_at run (w.synced + count))) (sym halves_is) (has_there now same));
      area-is = ap (λ (l : Log). l.area) log_is ∙ is.area-is ∙ ap (λ (h : HalvesValue). log_area g h.current) (sym halves_is);
      groups = is.groups;
      stands = subst (λ (l : Log). Stands l now is.groups) (sym log_is) (stands_there now same);
      loose = λ n unsynced. absurd (false≢true (sym (all n) ∙ unsynced));
      image = subst (λ n. IfSome new.image (IsUnderway run (other new.halves.current) now n)) (ap (λ n. w.synced + n) long
          ∙ sym synced_is) (subst (λ (h : HalvesValue). IfSome new.image
          (IsUnderway run (other h.current) now (w.synced + length (take count w.waiting)))) (sym halves_is) image);
      copying = subst (λ (at : Copying). IsCopying g.pages at new.image) (sym copying_is)
          (kept_copying g.pages w.copying w.image new.image stays is.copying);
      known = known_new;
    }

    pub carried_one : IsWriter past_of run handed new
    carried_one = record {
      run-is = is.run-is;
      geometry-is = ap (λ (h : HalvesValue). h.geometry) halves_is ∙ is.geometry-is;
      opened = omega (arith, is.opened, synced_is);
      reached = omega (arith, synced_is, is.within);
      made = is.made;
      small = is.small;
      waits = waiting_is ∙ ap (drop count) is.waits
          ∙ back_between run w.synced handed is.opened (omega (arith, is.within)) is.made count (omega (arith, is.within))
          ∙ ap (λ n. records_between run n handed) (sym synced_is);
      holds = λ _. stood_new;
      images = λ image crash.
          let is_now : image ≡ now = crash_synced (past_of new.device).disk image all crash in
          subst (LeftBy run new.synced handed) (sym is_now) (left_there now same new.synced (omega (arith, synced_is)));
    }

  -- it failed
  pub failed_one : (new : Writer D M) → new.halves ≡ w.halves → new.synced ≡ w.synced → new.waiting ≡ w.waiting → new.failed ≡ true
      → LeavesOnly (past_of w.device) (past_of new.device) (LeftBy run w.synced handed) → IsWriter past_of run handed new
  failed_one new halves_is synced_is waiting_is failed left = record {
    run-is = is.run-is;
    geometry-is = ap (λ (h : HalvesValue). h.geometry) halves_is ∙ is.geometry-is;
    opened = omega (arith, is.opened, synced_is);
    reached = omega (arith, is.within, synced_is);
    made = is.made;
    small = is.small;
    waits = waiting_is ∙ is.waits ∙ ap (λ n. records_between run n handed) (sym synced_is);
    holds = λ sound. absurd (false≢true (sym sound ∙ failed));
    images = λ image crash. subst (λ n. LeftBy run n handed image) (sym synced_is)
        (at_end (past_of w.device) (past_of new.device) (LeftBy run w.synced handed) left image crash);
  }
