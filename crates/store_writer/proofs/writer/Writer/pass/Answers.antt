use Rattle.std.proofs.Common.{◌≡◌, refl, ℕ, ◌+◌, ◌<◌, ◌≤◌, Some, sym, ap, subst, ◌∙◌, arith}
use Rattle.std.proofs.lemmas.Bool.{false≢true}
use Rattle.std.proofs.lemmas.Option.{none-some, same_Some}
use Rattle.record_values.specs.GeometryValue.{GeometryValue}
use Rattle.store_writer.specs.Known.{IsKnown}
use Rattle.store_writer.specs.Parts.{handed_of}
use Rattle.store_writer.specs.Writer.{IsAsTaken, IsLogFull, IsWriter}
use Rattle.store_writer.specs.Copying.{page_behind}
use Rattle.store_writer.specs.declared.copying.Copying.TheVariants.{Steps}
use Rattle.store_writer.specs.declared.image.NewImage.{NewImage}
use Rattle.store_writer.specs.declared.image.Stage.TheVariants.{Partly, Whole}
use Rattle.store_writer.specs.declared.writer.Writer.{Writer}
use Rattle.store_writer.proofs.KnownPages.{as_taken, below, next, passed}
use Rattle.store_writer.proofs.Places.{not_partly, one_place, one_stage}
use Rattle.store_writer.proofs.writer.Writer.pass.Goals as goal
use Rattle.store_writer.proofs.writer.Writer.pass.Goals.{then-self-via-then-self, then-self-via-else-self+then-is_full}
use Rattle.store_writer.proofs.writer.Writer.pass.Goals.{then-self-via-else-self+else-is_full+then-not-has}

pub returns-in_default : goal.returns-in_default
returns-in_default g c = record {
  writer = λ run handed is. is;
  passed = λ no. absurd (false≢true no);
  still = λ _. refl;
  when = (
    λ no. absurd (false≢true no),
    λ may.
        let (sound, room, (image, page, count, highest, life, there, at, up, known)) = may in
        absurd (none-some image (sym c.in_default.is ∙ there)),
  );
  taken = λ no. absurd (false≢true no);
}

pub returns-in_default-stage : goal.returns-in_default-stage
returns-in_default-stage g c = record {
  writer = λ run handed is. is;
  passed = λ no. absurd (false≢true no);
  still = λ _. refl;
  when = (
    λ no. absurd (false≢true no),
    λ may.
        let (sound, room, (image, page, count, highest, life, there, at, up, known)) = may in
        let never : Whole ≡ Partly page count highest life = one_stage _ c.in-Some.image image _ _ c.in-Some.is there c.in_default-stage.is at in
        absurd (not_partly page count highest life never),
  );
  taken = λ no. absurd (false≢true no);
}

pub returns-then-self : goal.returns-then-self
returns-then-self g c = record {
  writer = λ run handed is. is;
  passed = λ no. absurd (false≢true no);
  still = λ _. refl;
  when = (
    λ no. absurd (false≢true no),
    λ may.
        let (sound, room, (image, page, count, highest, life, there, at, up, known)) = may in
        let same : Partly c.in-Partly.page c.in-Partly.entries c.in-Partly.highest c.in-Partly.life ≡ Partly page count highest life =
        one_stage _ c.in-Some.image image _ _ c.in-Some.is there c.in-Partly.is at in
        let here : page ≡ c.in-Partly.page = sym (one_place _ _ _ _ _ _ _ _ same).0 in
        let old = c.args.self.now in
        elim c.then-self.branch [
          | then-self-via-then-self w ↦ absurd (false≢true (sym sound ∙ w.if-self.true))
          | then-self-via-else-self+then-is_full w ↦ absurd (room (w.if-is_full.ensures.0 refl ∙ ap (λ (x : GeometryValue). x.slots) w.geometry.ensures))
          | then-self-via-else-self+else-is_full+then-not-has w ↦ absurd
              (false≢true (sym w.if-not-has.true ∙ w.has.ensures.1 (subst (IsKnown old.known.changed.items old.known.other) here known)))
        ],
  );
  taken = λ no. absurd (false≢true no);
}

pub returns-then-handed-image : goal.returns-then-handed-image
returns-then-handed-image g c = record {
  writer = λ run handed is. is;
  passed = λ no. absurd (false≢true no);
  still = λ _. refl;
  when = (
    λ no. absurd (false≢true no),
    λ may.
        let (sound, room, (image, page, count, highest, life, there, at, up, known)) = may in
        let same : c.in-Some.image ≡ image = same_Some _ _ (sym c.in-Some.is ∙ there) in
        absurd (omega (arith, c.if-handed-image.true, c.handed-handed.ensures, ap (λ (i : NewImage). i.number) same, up)),
  );
  taken = λ no. absurd (false≢true no);
}

pub returns : goal.returns
returns g c =
    let past_of = g.D.Device.past_of in
    let w : Writer g.row.D.Denot g.row.A.Denot = c.args.self.now in
    let image : NewImage = c.in-Some.image in
    let page = c.in-Partly.page in
    let entries = c.in-Partly.entries in
    let highest = c.in-Partly.highest in
    let life = c.in-Partly.life in
    let sound = c.if-self.false in
    let there = c.in-Some.is in
    let at = c.in-Partly.is in
    let known : IsKnown w.known.changed.items w.known.other page = c.has.ensures.0 c.if-not-has.false in
    let up : image.number ≤ handed_of w = omega (arith, c.if-handed-image.false, c.handed-handed.ensures) in
    let room : ¬ IsLogFull w = λ full. false≢true (c.if-is_full.ensures.1 (full ∙ sym (ap (λ (x : GeometryValue). x.slots) c.geometry.ensures))) in
    let image_is : c.with_page.result ≡ record image { number = handed_of w; stage = Partly (page + 1) entries highest life } =
    c.with_page.ensures page entries highest life at
    ∙ ap (λ (n : ℕ). record image { number = n; stage = Partly (page + 1) entries highest life }) c.handed-handed.ensures in
    let behind = Some c.place_behind.result in
    record {
      writer = λ run handed is.
          subst (λ (i : NewImage). IsWriter past_of run handed (record w { image = Some i; copying = Steps behind })) (sym image_is)
          (passed past_of run handed w is sound image there page entries highest life at up known behind
          (c.place_behind.ensures ∙ ap (λ (x : GeometryValue). page_behind x.pages page) is.geometry-is));
      passed = λ _.
          let (run, handed, is) = c.requires in (
            image,
            page,
            entries,
            highest,
            life,
            there,
            at,
            subst (λ (x : GeometryValue). page < x.pages) (sym is.geometry-is)
                (below past_of run handed w is sound image there page entries highest life at up known),
            next past_of run handed w is sound image there page entries highest life at up known,
            λ k. record w { image = Some (image_is k); copying = Steps (c.place_behind.ensures k) },
          );
      still = λ no. absurd (false≢true (sym no));
      when = (λ _. (sound, room, (image, page, entries, highest, life, there, at, up, known)), λ _. refl);
      taken = λ _ run handed is.
          subst (λ (i : NewImage). IsAsTaken run handed w (record w { image = Some i; copying = Steps behind })) (sym image_is)
          (as_taken past_of run handed w is sound image there page entries highest life at up known room behind c.place_behind.ensures);
    }
