use Rattle.std.proofs.Common.{refl, sym, ap, arith, ◌∙◌}
use Rattle.board.specs.Views.{FlusherCount}
use Rattle.threads_flusher.proofs.Keeping.{can_step, chunk_of, images_of, kept_by_call, may_publish, may_tell, noted_as, still_sound}
use Rattle.threads_flusher.proofs.part.FlushPart.take_piece.Goals as goal

pub checkpoint_step-stepped-requires : goal.checkpoint_step-stepped-requires
checkpoint_step-stepped-requires g c =
    can_step g.D.Device.past_of g.D.Device.marks g.B.Group.site.opened _ _ c.self.view_is c.self.invariant.2 c.args.chunk.number c.args.chunk.piece
    c.requires.chunk

pub publish-requires : goal.publish-requires
publish-requires g c =
    let made = c.checkpoint_step-stepped in
    record {
      board = c.self.invariant.4 ∙ sym c.requires.board;
      horizon = may_publish g.D.Device.past_of g.D.Device.marks g.B.Group.site.opened _ _ _ _ _ (c.self.invariant.1, c.self.invariant.2) made.new.self
          (omega (arith, made.ensures.kept));
      failed = may_tell g.D.Device.past_of g.D.Device.marks g.B.Group.site.opened _ _ _ _ _ (c.self.invariant.1, c.self.invariant.2) made.new.self
          (still_sound g.D.Device.failures c.self.inside.writer made.new.self made.result made.ensures.sound made.ensures.err);
    }

pub invariant_of-self : goal.invariant_of-self
invariant_of-self g c =
    let chunk = chunk_of g.D.Device.past_of g.D.Device.marks g.B.Group.site.opened _ _ c.self.view_is c.args.chunk.number c.args.chunk.piece c.requires.chunk in
    let kept = kept_by_call g.D.Device.past_of g.D.Device.marks g.B.Group.site.opened _ _ _ _ _ (c.self.invariant.1, c.self.invariant.2)
    c.checkpoint_step-stepped.new.self c.publish.new.view _ (noted_as g.D.Device.past_of _ _ _ c.publish.ensures.noted)
    (c.checkpoint_step-stepped.ensures.writer _ _ c.self.invariant.2.writer chunk) c.checkpoint_step-stepped.ensures.images
    (omega (arith, c.checkpoint_step-stepped.ensures.kept))
    c.publish.ensures.published in
    (c.self.invariant.0, kept.0, kept.1, c.self.invariant.3, ap (λ (n : FlusherCount). n.board) c.publish.ensures.published.2 ∙ c.self.invariant.4)

pub returns : goal.returns
returns g c =
    rw (← c.self.view_is) (
    let stands = c.self.invariant.2 in
    let made = c.checkpoint_step-stepped in
    record {
      publishes = record {
        handed = refl;
        held = refl;
        mark = c.publish.ensures.published.0;
        marked = c.publish.ensures.published.1;
        published = c.publish.ensures.published.2;
        noted = noted_as g.D.Device.past_of _ _ _ c.publish.ensures.noted;
      };
      images = images_of g.D.Device.past_of g.D.Device.marks g.B.Group.site.opened _ made.new.self stands made.ensures.images;
      stepped = made.ensures.stepped;
      again = made.ensures.again;
      sound = made.ensures.sound;
      err = made.ensures.err;
      kept = made.ensures.kept;
      quiet = made.ensures.quiet;
      later = made.ensures.later;
      around = made.ensures.around;
      left = made.ensures.left;
    })
