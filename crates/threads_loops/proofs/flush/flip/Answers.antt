use Rattle.std.proofs.Common.{◌≡◌, ◌⊎◌, ◌+◌, ◌∙◌, List, None, ap, inl, inr, length, refl, subst, sym, ℕ}
use Rattle.std.proofs.lemmas.Result.{err_from_is_err_and}
use Rattle.core_model.specs.Histories.{Opened}
use Rattle.records.specs.RecordValue.{RecordValue}
use Rattle.sector_device.specs.DevicePast.{DevicePast}
use Rattle.threads_flusher.specs.Going.{LeavesImage}
use Rattle.threads_flusher.specs.Part.{FlushValue, last_handed}
use Rattle.threads_loops.specs.Copying.{HasImage, IsDue, StandsBy, WritesNone}
use Rattle.threads_loops.specs.Through.{Calls, PassesThrough}
use Rattle.threads_loops.proofs.Rounds.{copied_given, due_still, gone_already, image_flipped, stands_behind, stands_failed, stands_flipped, stands_given}
use Rattle.threads_loops.proofs.Through.{by_flip, through_call, through_giving, through_then}
use Rattle.store_writer.specs.Parts.{copying_of, halves_of, image_of}
use Rattle.store_writer.specs.Writer.{CanFlip, IsFlipReply, IsLogFull}
use Rattle.store_writer.specs.declared.copying.Copying.TheVariants.{GivenUp, Steps}
use Rattle.store_writer.specs.declared.writer.FlipReply.{FlipReply}
use Rattle.store_writer.specs.declared.writer.FlipReply.TheVariants.{Behind, Flipped}
use Rattle.store_writer.specs.declared.writer.Writer.{Writer}
use Rattle.threads_loops.proofs.flush.flip.Goals as goal

-- the flip is made
pub returns-in_err-flip : goal.returns-in_err-flip
returns-in_err-flip g c =
    let past_of = g.D.Device.past_of in
    let failures = g.D.Device.failures in
    let o = g.B.Group.site.opened in
    let old = c.args.part.now in
    let new = c.flip.new.self in
    let is = c.flip.ensures in
    let call : Calls past_of g.D.Device.marks failures o old new = by_flip past_of failures o old new is.publishes is.images is.later c.flip.result is.flipped
    is.sound is.err is.kept is.left is.quiet in
    let p = err_from_is_err_and c.from_residual.result c.from_residual.ensures.1 in
    rw p.1 (record {
      through = through_call past_of failures o old new call;
      copying = stands_failed old new c.in_err-flip.ensures.err.1;
      image = tt;
    })

pub returns-in-Flipped : goal.returns-in-Flipped
returns-in-Flipped g c =
    let past_of = g.D.Device.past_of in
    let failures = g.D.Device.failures in
    let o = g.B.Group.site.opened in
    let old = c.args.part.now in
    let new = c.flip.new.self in
    let is = c.flip.ensures in
    let call : Calls past_of g.D.Device.marks failures o old new = by_flip past_of failures o old new is.publishes is.images is.later c.flip.result is.flipped
    is.sound is.err is.kept is.left is.quiet in
    let flipped : IsFlipReply (last_handed o old) (Flipped c.in-Flipped.field-0) old.writer new.writer =
    subst (λ (r : FlipReply). IsFlipReply (last_handed o old) r old.writer new.writer) c.in-Flipped.is c.in_ok-flip.ensures.flipped in
    record {
      through = through_call past_of failures o old new call;
      copying = stands_flipped old new (last_handed o old) c.in-Flipped.field-0 flipped;
      image = λ copied. image_flipped old new (last_handed o old) c.in-Flipped.field-0 flipped;
    }

-- ---- it couldn't be made current

-- nor can it be where nothing was written since
cannot_still : {D A : Type 0} (o : Opened) (old mid new : FlushValue D A) → IsFlipReply (last_handed o old) Behind old.writer mid.writer
    → mid.handed ≡ old.handed → WritesNone mid new → ¬ CanFlip (last_handed o new) new.writer
cannot_still o old mid new behind handed none can =
    behind.1 (subst (λ n. CanFlip n old.writer) (ap (λ (l : List RecordValue). o.given.last + length l) (none.1 ∙ handed))
    (subst (λ (w : Writer _ _). CanFlip (last_handed o new) w) (none.0 ∙ behind.0) can))

-- so it is given up, for one of these causes
given_through : {D A : Type 0} {marks : ℕ → ℕ → Type 0} (past_of : D → DevicePast) (failures : D → ℕ) (o : Opened) (old mid new last : FlushValue D A)
    → copying_of old.writer ≡ Steps None → new.writer ≡ old.writer → LeavesImage GivenUp new last → PassesThrough past_of marks failures o old mid
    → PassesThrough past_of marks failures o mid new
    → (image_of new.writer ≡ None) ⊎ (IsLogFull new.writer × (¬ CanFlip (last_handed o new) new.writer)) → PassesThrough past_of marks failures o old last
given_through past_of failures o old mid new last whole same leaves first second why =
    through_then past_of failures o old new last (through_then past_of failures o old mid new first second)
    (through_giving past_of failures o new last (ap (λ (w : Writer _ _). copying_of w) same ∙ whole, why, leaves))

module _ {D A : Type 0} (old new last : FlushValue D A) (same : new.writer ≡ old.writer) (leaves : LeavesImage GivenUp new last) where
  given_stands : IsDue old → StandsBy last
  given_stands due = stands_given new last leaves (due_still old new same due)

  given_image : HasImage old last
  given_image =
      let copied = copied_given new last leaves in
      inl (copied.0, copied.1 ∙ ap (λ (w : Writer D A). halves_of w) same)

pub returns-in_err-write : goal.returns-in_err-write
returns-in_err-write g c =
    let past_of = g.D.Device.past_of in
    let failures = g.D.Device.failures in
    let o = g.B.Group.site.opened in
    let old = c.args.part.now in
    let mid = c.flip.new.self in
    let new = c.write.new.part in
    let is = c.flip.ensures in
    let call : Calls past_of g.D.Device.marks failures o old mid = by_flip past_of failures o old mid is.publishes is.images is.later c.flip.result is.flipped
    is.sound is.err is.kept is.left is.quiet in
    let behind : IsFlipReply (last_handed o old) Behind old.writer mid.writer =
    subst (λ (r : FlipReply). IsFlipReply (last_handed o old) r old.writer mid.writer) c.in-Behind.is c.in_ok-flip.ensures.flipped in
    let p = err_from_is_err_and c.from_residual-in_err-write.result c.from_residual-in_err-write.ensures.1 in
    rw p.1 (record {
      through = through_then past_of failures o old mid new (through_call past_of failures o old mid call) c.write.ensures.through;
      copying = c.write.ensures.copying (stands_behind old mid (last_handed o old) behind c.requires.late);
      image = tt;
    })

pub returns-in-Flushed : goal.returns-in-Flushed
returns-in-Flushed g c =
    let past_of = g.D.Device.past_of in
    let failures = g.D.Device.failures in
    let o = g.B.Group.site.opened in
    let old = c.args.part.now in
    let mid = c.flip.new.self in
    let new = c.write.new.part in
    let is = c.flip.ensures in
    let call : Calls past_of g.D.Device.marks failures o old mid = by_flip past_of failures o old mid is.publishes is.images is.later c.flip.result is.flipped
    is.sound is.err is.kept is.left is.quiet in
    let behind : IsFlipReply (last_handed o old) Behind old.writer mid.writer =
    subst (λ (r : FlipReply). IsFlipReply (last_handed o old) r old.writer mid.writer) c.in-Behind.is c.in_ok-flip.ensures.flipped in
    record {
      through = through_then past_of failures o old mid new (through_call past_of failures o old mid call) c.write.ensures.through;
      copying = c.write.ensures.copying (stands_behind old mid (last_handed o old) behind c.requires.late);
      image = λ copied. inl (
        (λ idle. copied (sym (c.write.ensures.place ∙ ap (λ w. copying_of w) behind.0) ∙ idle)),
        c.write.ensures.half ∙ ap (λ w. halves_of w) behind.0,
      );
    }

pub returns-in-Nothing : goal.returns-in-Nothing
returns-in-Nothing g c =
    let past_of = g.D.Device.past_of in
    let failures = g.D.Device.failures in
    let o = g.B.Group.site.opened in
    let old = c.args.part.now in
    let mid = c.flip.new.self in
    let new = c.write.new.part in
    let last = c.give_up.new.self in
    let is = c.flip.ensures in
    let call : Calls past_of g.D.Device.marks failures o old mid = by_flip past_of failures o old mid is.publishes is.images is.later c.flip.result is.flipped
    is.sound is.err is.kept is.left is.quiet in
    let behind : IsFlipReply (last_handed o old) Behind old.writer mid.writer =
    subst (λ (r : FlipReply). IsFlipReply (last_handed o old) r old.writer mid.writer) c.in-Behind.is c.in_ok-flip.ensures.flipped in
    let none = c.in_ok-write.ensures.none c.in-Nothing.is in
    let whole : copying_of mid.writer ≡ Steps None = ap (λ w. copying_of w) behind.0 ∙ c.requires.whole in
    let cannot = cannot_still o old mid mid behind is.publishes.handed (refl, refl) in
    let gone : image_of mid.writer ≡ None = gone_already past_of o mid c.stands.ensures c.in_ok-flip.ensures.sound.1 whole none.1 cannot in
    let same : new.writer ≡ old.writer = none.0.0 ∙ behind.0 in
    record {
      through = given_through past_of failures o old mid new last c.requires.whole same c.give_up.ensures (through_call past_of failures o old mid call)
          c.write.ensures.through (inl (ap (λ w. image_of w) none.0.0 ∙ gone));
      copying = given_stands old new last same c.give_up.ensures c.requires.late;
      image = λ _. given_image old new last same c.give_up.ensures;
    }

pub returns-in-LogFull : goal.returns-in-LogFull
returns-in-LogFull g c =
    let past_of = g.D.Device.past_of in
    let failures = g.D.Device.failures in
    let o = g.B.Group.site.opened in
    let old = c.args.part.now in
    let mid = c.flip.new.self in
    let new = c.write.new.part in
    let last = c.give_up-in-LogFull.new.self in
    let is = c.flip.ensures in
    let call : Calls past_of g.D.Device.marks failures o old mid = by_flip past_of failures o old mid is.publishes is.images is.later c.flip.result is.flipped
    is.sound is.err is.kept is.left is.quiet in
    let behind : IsFlipReply (last_handed o old) Behind old.writer mid.writer =
    subst (λ (r : FlipReply). IsFlipReply (last_handed o old) r old.writer mid.writer) c.in-Behind.is c.in_ok-flip.ensures.flipped in
    let full = c.in_ok-write.ensures.full c.in-LogFull.is in
    let same : new.writer ≡ old.writer = full.0.0 ∙ behind.0 in
    record {
      through = given_through past_of failures o old mid new last c.requires.whole same c.give_up-in-LogFull.ensures
          (through_call past_of failures o old mid call) c.write.ensures.through
          (inr (subst (λ w. IsLogFull w) (sym full.0.0) full.1, cannot_still o old mid new behind is.publishes.handed full.0));
      copying = given_stands old new last same c.give_up-in-LogFull.ensures c.requires.late;
      image = λ _. given_image old new last same c.give_up-in-LogFull.ensures;
    }
