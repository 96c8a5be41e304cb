use Rattle.std.proofs.Common.{◌≢◌, ◌∙◌, ap, inl, sym}
use Rattle.std.proofs.lemmas.Bool.{iff_false}
use Rattle.std.proofs.lemmas.Result.{err_from_is_err_and, on_ok_weaker}
use Rattle.store_writer.specs.Copying.{next_place}
use Rattle.store_writer.specs.Parts.{copying_of}
use Rattle.store_writer.specs.declared.copying.Copying.TheVariants.{Idle, Steps}
use Rattle.threads_loops.specs.Copying.{HasImage, IsCopied, IsWanted}
use Rattle.threads_loops.proofs.Rounds.{given_on, image_then, steps_on}
use Rattle.threads_loops.proofs.Through.{through_none, through_then}
use Rattle.threads_loops.proofs.flush.copy.Goals as goal

-- ---- before the calls

pub copy_piece-requires-clause-due : goal.copy_piece-requires-clause-due
copy_piece-requires-clause-due g c = ap next_place (sym c.copying.ensures ∙ c.in-Idle.is)

pub copy_piece-requires-clause-late : goal.copy_piece-requires-clause-late
copy_piece-requires-clause-late g c = λ sound. c.wants_image.ensures.begins.0 c.if-not-wants_image.false

pub pass_or_copy-requires-clause-due : goal.pass_or_copy-requires-clause-due
pass_or_copy-requires-clause-due g c = ap next_place (sym c.copying.ensures ∙ c.in-Steps-Some.is ∙ ap Steps c.in-Steps-Some.field-0-is)

pub pass_or_copy-requires-clause-late : goal.pass_or_copy-requires-clause-late
pass_or_copy-requires-clause-late g c = λ sound.
    c.requires.copying sound (λ idle. steps_on _ (sym c.in-Steps-Some.is ∙ (c.copying.ensures ∙ idle)))

pub flip-requires-clause-whole : goal.flip-requires-clause-whole
flip-requires-clause-whole g c = sym c.copying.ensures ∙ c.in-Steps-None.is ∙ ap Steps c.in-Steps-None.field-0-is

pub flip-requires-clause-late : goal.flip-requires-clause-late
flip-requires-clause-late g c = λ sound. c.requires.copying sound (λ idle. steps_on _ (sym c.in-Steps-None.is ∙ (c.copying.ensures ∙ idle)))

pub copy_all-requires : goal.copy_all-requires
copy_all-requires g c = record {
  given_up = sym c.copying.ensures ∙ c.in-GivenUp.is;
  late = λ sound. c.requires.copying sound (λ idle. given_on (sym c.in-GivenUp.is ∙ (c.copying.ensures ∙ idle)));
}

pub flip-requires-in-GivenUp-clause-whole : goal.flip-requires-in-GivenUp-clause-whole
flip-requires-in-GivenUp-clause-whole g c = c.in_ok-copy_all-in-GivenUp.ensures.whole

pub flip-requires-in-GivenUp-clause-late : goal.flip-requires-in-GivenUp-clause-late
flip-requires-in-GivenUp-clause-late g c = c.copy_all.ensures.late

-- ---- the exits

pub returns-then-not-wants_image : goal.returns-then-not-wants_image
returns-then-not-wants_image g c = record {
  through = through_none g.D.Device.past_of g.D.Device.failures g.B.Group.site.opened c.args.part.now;
  copying = c.requires.copying;
  image = λ wanted. absurd (iff_false c.wants_image.ensures.begins c.if-not-wants_image.true (wanted (sym c.copying.ensures ∙ c.in-Idle.is)));
}

pub returns-else-not-wants_image : goal.returns-else-not-wants_image
returns-else-not-wants_image g c =
    let old = c.args.part.now in
    let new = c.copy_piece.new.part in
    let is = c.copy_piece.ensures in
    let then : IsCopied old new → IsWanted old → HasImage old new = λ copied wanted. inl copied in
    record {
      through = is.through;
      copying = is.copying;
      image = on_ok_weaker c.copy_piece.result then is.image;
    }

pub returns-in-Steps-Some : goal.returns-in-Steps-Some
returns-in-Steps-Some g c =
    let old = c.args.part.now in
    let new = c.pass_or_copy.new.part in
    let is = c.pass_or_copy.ensures in
    let then : IsCopied old new → IsWanted old → HasImage old new = λ copied wanted. inl copied in
    record {
      through = is.through;
      copying = is.copying;
      image = on_ok_weaker c.pass_or_copy.result then is.image;
    }

pub returns-in-Steps-None : goal.returns-in-Steps-None
returns-in-Steps-None g c =
    let old = c.args.part.now in
    let new = c.flip.new.part in
    let is = c.flip.ensures in
    let then : (copying_of old.writer ≢ Idle → HasImage old new) → IsWanted old → HasImage old new =
    λ image wanted. image (λ idle. steps_on _ (sym c.in-Steps-None.is ∙ (c.copying.ensures ∙ idle))) in
    record {
      through = is.through;
      copying = is.copying;
      image = on_ok_weaker c.flip.result then is.image;
    }

pub returns-in_err-copy_all-in-GivenUp : goal.returns-in_err-copy_all-in-GivenUp
returns-in_err-copy_all-in-GivenUp g c =
    let is = c.copy_all.ensures in
    let p = err_from_is_err_and c.from_residual.result c.from_residual.ensures.1 in
    rw p.1 (record {
      through = is.through;
      copying = is.copying;
      image = tt;
    })

pub returns-in_ok-copy_all-in-GivenUp : goal.returns-in_ok-copy_all-in-GivenUp
returns-in_ok-copy_all-in-GivenUp g c =
    let past_of = g.D.Device.past_of in
    let failures = g.D.Device.failures in
    let o = g.B.Group.site.opened in
    let old = c.args.part.now in
    let mid = c.copy_all.new.part in
    let new = c.flip-in-GivenUp.new.part in
    let first = c.copy_all.ensures in
    let is = c.flip-in-GivenUp.ensures in
    let copied = c.in_ok-copy_all-in-GivenUp.ensures.image in
    let then : (copying_of mid.writer ≢ Idle → HasImage mid new) → IsWanted old → HasImage old new =
    λ image wanted. image_then old mid new copied (image copied.0) in
    record {
      through = through_then past_of failures o old mid new first.through is.through;
      copying = is.copying;
      image = on_ok_weaker c.flip-in-GivenUp.result then is.image;
    }
