use Rattle.std.proofs.Common.{true, Result, Ok, Err, ◌≡◌, ◌≤◌, ◌-◌, drop, ℕ, Vec, None, Some, refl, sym, ap, subst, ◌∙◌, arith}
use Rattle.std.proofs.lemmas.Bool.{false≢true}
use Rattle.std.proofs.lemmas.Option.{same_Some}
use Rattle.record_values.specs.declared.error.Error.{Error}
use Rattle.sector_device.specs.Disk.{sector}
use Rattle.sector_device.proofs.Moments.{started}
use Rattle.flip_image.specs.Layout.{HalvesValue, other}
use Rattle.flip_image.specs.Store.{Names}
use Rattle.store_writer.specs.declared.copying.Copying.TheVariants.{Idle}
use Rattle.store_writer.specs.declared.writer.Writer.{Writer}
use Rattle.store_writer.specs.declared.writer.FlipReply.{FlipReply}
use Rattle.store_writer.specs.declared.writer.FlipReply.TheVariants.{Flipped, Behind}
use Rattle.store_writer.specs.declared.image.NewImage.{NewImage}
use Rattle.store_writer.specs.declared.image.Stage.TheVariants.{Whole}
use Rattle.store_writer.specs.Contents.{LeftBy}
use Rattle.store_writer.specs.Image.{reach}
use Rattle.store_writer.specs.Writer.{IsWriter}
use Rattle.store_image_model.specs.Run.{Run}
use Rattle.sector_device.specs.DevicePast.{LeavesOnly}
use Rattle.store_writer.proofs.Writing.{carried_on}
use Rattle.store_writer.proofs.Idle.{from_ok, from_err}
use Rattle.store_writer.proofs.Flipping.{leaves_flipping, flipped_one, no_image, not_whole, rises_then, there_at}
use Rattle.store_writer.proofs.Opening.{waits_all}
use Rattle.store_writer.proofs.Alone.{none_alone, flipped_alone}
use Rattle.store_writer.proofs.store.StoreWriter.checkpoint_flip.Goals as goal
use Rattle.store_writer.proofs.store.StoreWriter.checkpoint_flip.Goals.{then-handed-image-via-then-handed-image}
use Rattle.store_writer.proofs.store.StoreWriter.checkpoint_flip.Goals.{then-handed-image-via-else-handed-image+then-reached-image}

behind_not : (n : ℕ) → ◌≡◌ {A = Result FlipReply Error} (Ok Behind) (Ok (Flipped n)) → ⊥
behind_not n is = (cc)

refused_not : (e : Error) (r : FlipReply) → ◌≡◌ {A = Result FlipReply Error} (Err e) (Ok r) → ⊥
refused_not e r is = (cc)

pub returns-then-self : goal.returns-then-self
returns-then-self g c =
    rw (← c.self.view_is) (
    let old = c.self.inside.writer in
    record {
      writer = λ run handed is. is;
      images = λ run handed is. started (g.D.Device.past_of old.device) (LeftBy run old.synced handed) is.images;
      flipped = λ run handed is. tt;
      sound = tt;
      behind = λ run handed is sound no. absurd (false≢true (sym sound ∙ c.if-self.true));
      err = (refl, c.if-self.true, (λ sound. absurd (false≢true (sym sound ∙ c.if-self.true))), λ _. refl);
      quiet = tt;
      later = omega arith;
      kept = refl;
      around = none_alone g.D.Device.past_of (λ n. n ≡ 1) old.device;
      left = refl;
      turns = λ n never. absurd (refused_not _ _ never);
    })

pub returns-in_default : goal.returns-in_default
returns-in_default g c =
    rw (← c.self.view_is) (
    let old = c.self.inside.writer in
    record {
      writer = λ run handed is. is;
      images = λ run handed is. started (g.D.Device.past_of old.device) (LeftBy run old.synced handed) is.images;
      flipped = λ run handed is. (refl, no_image old handed c.in_default.is);
      sound = (c.if-self.false, c.if-self.false);
      behind = λ run handed is sound no. refl;
      err = tt;
      quiet = refl;
      later = omega arith;
      kept = tt;
      around = none_alone g.D.Device.past_of (λ n. n ≡ 1) old.device;
      left = tt;
      turns = λ n never. absurd (behind_not _ never);
    })

pub returns-in_default-stage : goal.returns-in_default-stage
returns-in_default-stage g c =
    rw (← c.self.view_is) (
    let old = c.self.inside.writer in
    record {
      writer = λ run handed is. is;
      images = λ run handed is. started (g.D.Device.past_of old.device) (LeftBy run old.synced handed) is.images;
      flipped = λ run handed is. (refl, not_whole old handed c.in-Some.image c.in-Some.is c.in_default-stage.not-Whole);
      sound = (c.if-self.false, c.if-self.false);
      behind = λ run handed is sound no. refl;
      err = tt;
      quiet = refl;
      later = omega arith;
      kept = tt;
      around = none_alone g.D.Device.past_of (λ n. n ≡ 1) old.device;
      left = tt;
      turns = λ n never. absurd (behind_not _ never);
    })

pub returns-then-handed-image : goal.returns-then-handed-image
returns-then-handed-image g c =
    rw (← c.self.view_is) (
    let old = c.self.inside.writer in
    record {
      writer = λ run handed is. is;
      images = λ run handed is. started (g.D.Device.past_of old.device) (LeftBy run old.synced handed) is.images;
      flipped = λ run handed is. (
        refl,
        λ can.
            let (image, there, whole, most, reaches) = can in
            let same : c.in-Some.image ≡ image = same_Some _ _ (sym c.in-Some.is ∙ there) in
            let number : c.in-Some.image.number ≡ image.number = ap (λ (x : NewImage). x.number) same in
            let base : c.in-Some.image.base ≡ image.base = ap (λ (x : NewImage). x.base) same in
            let count = waits_all g.D.Device.past_of run handed old is in
            elim c.then-handed-image.branch [
              | then-handed-image-via-then-handed-image w ↦ absurd
                  (omega (arith, w.if-handed-image.true, c.len.ensures, count, number, most))
              | then-handed-image-via-else-handed-image+then-reached-image w ↦ absurd
                  (omega (arith, w.if-reached-image.true, c.max-reached.ensures, number, base, reaches))
            ],
      );
      sound = (c.if-self.false, c.if-self.false);
      behind = λ run handed is sound no. refl;
      err = tt;
      quiet = refl;
      later = omega arith;
      kept = tt;
      around = none_alone g.D.Device.past_of (λ n. n ≡ 1) old.device;
      left = tt;
      turns = λ n never. absurd (behind_not _ never);
    })

pub returns-then-is_err : goal.returns-then-is_err
returns-then-is_err g c =
    rw (← c.self.view_is) (
    let past_of = g.D.Device.past_of in
    let old = c.self.inside.writer in
    let image : NewImage = c.in-Some.image in
    let whole : image.stage ≡ Whole = c.in-Whole.is in
    let failed = sym c.is_err.ensures.value ∙ c.if-is_err.true in
    let new : Writer g.row.D.Denot g.row.A.Denot = record {
      device = c.flip.new.device;
      halves = c.flip.new.self;
      log = old.log;
      waiting = old.waiting;
      synced = old.synced;
      image = old.image;
      copying = old.copying;
      known = old.known;
      failed = true;
    } in
    let same : c.flip.new.self ≡ old.halves = from_err _ _ failed c.flip.ensures.err in
    let within : (run : Run) (handed : ℕ) → IsWriter past_of run handed old → image.number ≤ handed = λ run handed is.
    omega (arith, c.if-handed-image.false, c.len.ensures, waits_all past_of run handed old is) in
    let reaches : image.number ≤ reach image old.synced = omega (arith, c.if-reached-image.false, c.max-reached.ensures) in
    let leaves : (run : Run) (handed : ℕ) → IsWriter past_of run handed old
    → LeavesOnly (past_of old.device) (past_of c.flip.new.device) (LeftBy run old.synced handed) = λ run handed is.
    leaves_flipping past_of run handed old is c.if-self.false image
    (there_at past_of run handed old is c.if-self.false image c.in-Some.is) whole reaches (within run handed is) (past_of c.flip.new.device)
    c.flip.ensures.any_moment in
    record {
      writer = λ run handed is. carried_on past_of run handed old new is same refl refl (λ sound. absurd (false≢true (sym sound))) (leaves run handed is);
      images = leaves;
      flipped = λ run handed is. tt;
      sound = tt;
      behind = λ run handed is sound no. absurd (no (image, c.in-Some.is, whole, within run handed is, reaches));
      err = (refl, refl, (λ _. rises_then _ _ _ failed c.flip.ensures.refused), λ was. absurd (false≢true (sym c.if-self.false ∙ was)));
      quiet = tt;
      later = c.flip.ensures.later;
      kept = refl;
      around = flipped_alone past_of old.device c.flip.new.device c.flip.ensures.outside c.flip.ensures.any_moment;
      left = ap (λ (h : HalvesValue). record {
        device = c.flip.new.device;
        halves = h;
        log = old.log;
        waiting = old.waiting;
        synced = old.synced;
        image = old.image;
        copying = old.copying;
        known = old.known;
        failed = true;
      }) same;
      turns = λ n never. absurd (refused_not _ _ never);
    })

pub returns : goal.returns
returns g c =
    rw (← c.self.view_is) (
    let past_of = g.D.Device.past_of in
    let old = c.self.inside.writer in
    let image : NewImage = c.in-Some.image in
    let whole : image.stage ≡ Whole = c.in-Whole.is in
    let good = sym c.is_err.ensures.value ∙ c.if-is_err.false in
    let new : Writer g.row.D.Denot g.row.A.Denot = record {
      device = c.flip.new.device;
      halves = c.flip.new.self;
      log = image.log;
      waiting = c.take_first.new.self;
      synced = c.max-reached.result;
      image = None;
      copying = Idle;
      known = c.turn.new.self;
      failed = old.failed;
    } in
    let within : (run : Run) (handed : ℕ) → IsWriter past_of run handed old → image.number ≤ handed = λ run handed is.
    omega (arith, c.if-handed-image.false, c.len.ensures, waits_all past_of run handed old is) in
    let reaches : image.number ≤ reach image old.synced = omega (arith, c.if-reached-image.false, c.max-reached.ensures) in
    let halves_is : c.flip.new.self ≡ record { geometry = old.halves.geometry; current = other old.halves.current } = from_ok _ _ good c.flip.ensures.flipped in
    let named : Names (sector (past_of new.device).disk.content 1) (other old.halves.current) =
    subst (λ (h : HalvesValue). Names (sector (past_of new.device).disk.content 1) h.current) halves_is (from_ok _ _ good c.flip.ensures.named) in
    let waits : new.waiting ≡ drop (c.max-reached.result - old.synced) old.waiting = c.take_first.ensures in
    record {
      writer = λ run handed is. flipped_one past_of run handed old is c.if-self.false image
          (there_at past_of run handed old is c.if-self.false image c.in-Some.is) whole reaches (within run handed is) new halves_is refl c.max-reached.ensures
          (waits ∙ ap (λ (k : ℕ). drop (k - old.synced) old.waiting) c.max-reached.ensures) refl refl c.turn.ensures.changed c.turn.ensures.current
          c.turn.ensures.other c.flip.ensures.outside named
          (from_ok _ _ good c.flip.ensures.synced);
      images = λ run handed is. leaves_flipping past_of run handed old is c.if-self.false image
          (there_at past_of run handed old is c.if-self.false image c.in-Some.is) whole reaches (within run handed is) (past_of c.flip.new.device)
          c.flip.ensures.any_moment;
      flipped = λ run handed is. (
        refl,
        omega (arith, c.max-reached.ensures),
        (image, c.in-Some.is, whole, within run handed is, reaches),
        (λ t it. let same : image ≡ t = same_Some _ _ (sym c.in-Some.is ∙ it) in c.max-reached.ensures ∙ ap (λ (x : NewImage). reach x old.synced) same),
        refl,
        record {
          halves-are = halves_is;
          log-is = λ t it. let same : image ≡ t = same_Some _ _ (sym c.in-Some.is ∙ it) in ap (λ (x : NewImage). x.log) same;
          waiting-are = waits;
          copying-is = refl;
        },
      );
      sound = (c.if-self.false, c.if-self.false);
      behind = λ run handed is sound no. absurd (no (image, c.in-Some.is, whole, within run handed is, reaches));
      err = tt;
      quiet = from_ok _ _ good c.flip.ensures.quiet;
      later = c.flip.ensures.later;
      kept = tt;
      around = flipped_alone past_of old.device c.flip.new.device c.flip.ensures.outside c.flip.ensures.any_moment;
      left = tt;
      turns = λ n _. (
        ap (λ (v : Vec ℕ g.row.A.Denot). v.items) c.turn.ensures.changed,
        c.turn.ensures.other,
        λ t it. let same : image ≡ t = same_Some _ _ (sym c.in-Some.is ∙ it) in c.turn.ensures.current ∙ ap (λ (x : NewImage). Some x.base) same,
      );
    })

pub take_first-requires : goal.take_first-requires
take_first-requires g c =
    let (run, handed, is) = c.self.invariant in
    let there = there_at g.D.Device.past_of run handed c.self.inside.writer is c.if-self.false c.in-Some.image c.in-Some.is in
    omega (arith, there.rise, c.max-reached.ensures, c.if-handed-image.false, c.len.ensures)

pub invariant_of-self : goal.invariant_of-self
invariant_of-self g c =
    let (run, handed, is) = c.self.invariant in
    (run, handed, (returns-then-is_err g c).writer run handed (rw c.self.view_is at is))

pub invariant_of-self-2 : goal.invariant_of-self-2
invariant_of-self-2 g c =
    let (run, handed, is) = c.self.invariant in
    (run, handed, (returns g c).writer run handed (rw c.self.view_is at is))

pub overflow_add-handed : goal.overflow_add-handed
overflow_add-handed g c =
    let (run, handed, is) = c.self.invariant in
    omega (arith, c.len.ensures, waits_all g.D.Device.past_of run handed c.self.inside.writer is, is.small)

pub overflow_sub-reached : goal.overflow_sub-reached
overflow_sub-reached g c = omega (arith, c.max-reached.ensures)
