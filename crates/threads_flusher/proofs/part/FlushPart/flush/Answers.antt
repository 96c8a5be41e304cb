use Rattle.std.proofs.Common.{refl, sym, ap, ◌∙◌}
use Rattle.board.specs.Views.{FlusherCount}
use Rattle.threads_flusher.proofs.Keeping.{flush_rises, flush_sound, images_of, kept_by_call, may_publish, may_tell, noted_as}
use Rattle.threads_flusher.proofs.part.FlushPart.flush.Goals as goal

pub publish-requires : goal.publish-requires
publish-requires g c =
    let made = c.flush_group-flushed in
    let failures = g.D.Device.failures in
    record {
      board = c.self.invariant.4 ∙ sym c.requires;
      horizon = may_publish g.D.Device.past_of g.D.Device.marks g.B.Group.site.opened _ _ _ _ _ (c.self.invariant.1, c.self.invariant.2) made.new.self
          (flush_rises failures c.self.inside.writer made.new.self made.result made.ensures.flushed made.ensures.kept);
      failed = may_tell g.D.Device.past_of g.D.Device.marks g.B.Group.site.opened _ _ _ _ _ (c.self.invariant.1, c.self.invariant.2) made.new.self
          (flush_sound failures c.self.inside.writer made.new.self made.result made.ensures.sound made.ensures.err);
    }

pub invariant_of-self : goal.invariant_of-self
invariant_of-self g c =
    let kept = kept_by_call g.D.Device.past_of g.D.Device.marks g.B.Group.site.opened _ _ _ _ _ (c.self.invariant.1, c.self.invariant.2)
    c.flush_group-flushed.new.self c.publish.new.view _ (noted_as g.D.Device.past_of _ _ _ c.publish.ensures.noted)
    (c.flush_group-flushed.ensures.writer _ _ c.self.invariant.2.writer) c.flush_group-flushed.ensures.images
    (flush_rises g.D.Device.failures c.self.inside.writer c.flush_group-flushed.new.self c.flush_group-flushed.result
    c.flush_group-flushed.ensures.flushed c.flush_group-flushed.ensures.kept)
    c.publish.ensures.published in
    (c.self.invariant.0, kept.0, kept.1, c.self.invariant.3, ap (λ (n : FlusherCount). n.board) c.publish.ensures.published.2 ∙ c.self.invariant.4)

pub returns : goal.returns
returns g c =
    rw (← c.self.view_is) (
    let stands = c.self.invariant.2 in
    let made = c.flush_group-flushed in
    record {
      publishes = record {
        handed = refl;
        held = refl;
        mark = c.publish.ensures.published.0;
        marked = c.publish.ensures.published.1;
        published = c.publish.ensures.published.2;
        noted = noted_as g.D.Device.past_of _ _ _ c.publish.ensures.noted;
      };
      images = images_of g.D.Device.past_of g.D.Device.marks g.B.Group.site.opened _ made.new.self stands made.ensures.images;
      flushed = made.ensures.flushed;
      image = made.ensures.image;
      copying = made.ensures.copying;
      nothing = λ same. made.ensures.nothing same _ _ stands.writer;
      idle = made.ensures.idle _ _ stands.writer;
      full = made.ensures.full;
      sound = made.ensures.sound;
      err = made.ensures.err;
      kept = made.ensures.kept;
      quiet = made.ensures.quiet;
      later = made.ensures.later;
      around = made.ensures.around;
      slot = made.ensures.slot;
      left = made.ensures.left;
    })
