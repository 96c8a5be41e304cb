use Rattle.std.proofs.Common.{◌∙◌, refl, sym, ap, arith, map}
use Rattle.std.proofs.lemmas.Bool.{false≢true}
use Rattle.board.specs.Views.{FlusherCount}
use Rattle.store_writer.specs.Parts.{device_of, has_failed, synced_of}
use Rattle.threads_flusher.specs.Part.{flush_value, publication_of}
use Rattle.threads_flusher.proofs.Keeping.{images_of, images_still, kept_by_call, kept_without, may_publish, may_tell, noted_as}
use Rattle.threads_flusher.proofs.part.FlushPart.pass_page.Goals as goal

pub publish-requires : goal.publish-requires
publish-requires g c =
    let made = c.pass_page in
    let passed = made.ensures.passed c.if-not-pass_page.false in
    record {
      board = c.self.invariant.4 ∙ sym c.requires;
      horizon = may_publish g.D.Device.past_of g.D.Device.marks g.B.Group.site.opened _ _ _ _ _ (c.self.invariant.1, c.self.invariant.2) made.new.self
          (omega (arith, ap (λ w. synced_of w) passed.9));
      failed = may_tell g.D.Device.past_of g.D.Device.marks g.B.Group.site.opened _ _ _ _ _ (c.self.invariant.1, c.self.invariant.2) made.new.self
          (λ sound. sym (ap (λ w. has_failed w) passed.9) ∙ sound);
    }

pub invariant_of-self : goal.invariant_of-self
invariant_of-self g c =
    let same = c.pass_page.ensures.still c.if-not-pass_page.true in
    let kept = kept_without g.D.Device.past_of g.D.Device.marks g.B.Group.site.opened _ _ _ _ _ (c.self.invariant.1, c.self.invariant.2) c.pass_page.new.self
    c.pass_page.ensures.writer (ap (λ w. device_of w) same) (ap (λ w. synced_of w) same) (ap (λ w. has_failed w) same) in
    (c.self.invariant.0, kept.0, kept.1, c.self.invariant.3, c.self.invariant.4)

pub returns-then-not-pass_page : goal.returns-then-not-pass_page
returns-then-not-pass_page g c =
    rw (← c.self.view_is) (
    let inside = c.self.inside in
    let no = c.if-not-pass_page.true in
    record {
      publishes = λ yes. absurd (false≢true yes);
      images = λ yes. absurd (false≢true yes);
      passed = λ yes. absurd (false≢true yes);
      taken = λ yes. absurd (false≢true yes);
      still = λ _. ap (λ w. flush_value inside.popper.records inside.held.items w inside.view
          (map (publication_of g.D.Device.past_of) inside.publications.items)) (c.pass_page.ensures.still no);
      when = ((λ yes. absurd (false≢true yes)), (λ may. absurd (false≢true (sym no ∙ c.pass_page.ensures.when.1 may))));
    })

pub invariant_of-self-2 : goal.invariant_of-self-2
invariant_of-self-2 g c =
    let made = c.pass_page in
    let passed = made.ensures.passed c.if-not-pass_page.false in
    let kept = kept_by_call g.D.Device.past_of g.D.Device.marks g.B.Group.site.opened _ _ _ _ _ (c.self.invariant.1, c.self.invariant.2)
    made.new.self c.publish.new.view _ (noted_as g.D.Device.past_of _ _ _ c.publish.ensures.noted)
    (made.ensures.writer _ _ c.self.invariant.2.writer)
    (images_still g.D.Device.past_of c.self.inside.writer made.new.self (ap (λ w. device_of w) passed.9))
    (omega (arith, ap (λ w. synced_of w) passed.9))
    c.publish.ensures.published in
    (c.self.invariant.0, kept.0, kept.1, c.self.invariant.3, ap (λ (n : FlusherCount). n.board) c.publish.ensures.published.2 ∙ c.self.invariant.4)

pub returns : goal.returns
returns g c =
    rw (← c.self.view_is) (
    let stands = c.self.invariant.2 in
    let made = c.pass_page in
    let passed = made.ensures.passed c.if-not-pass_page.false in
    record {
      publishes = λ _. record {
        handed = refl;
        held = refl;
        mark = c.publish.ensures.published.0;
        marked = c.publish.ensures.published.1;
        published = c.publish.ensures.published.2;
        noted = noted_as g.D.Device.past_of _ _ _ c.publish.ensures.noted;
      };
      images = λ _. images_of g.D.Device.past_of g.D.Device.marks g.B.Group.site.opened _ made.new.self stands
          (images_still g.D.Device.past_of c.self.inside.writer made.new.self (ap (λ w. device_of w) passed.9));
      passed = λ _. passed;
      taken = λ _. made.ensures.taken c.if-not-pass_page.false _ _ stands.writer;
      still = λ no. absurd (false≢true (sym no));
      when = ((λ _. made.ensures.when.0 c.if-not-pass_page.false), (λ _. refl));
    })
