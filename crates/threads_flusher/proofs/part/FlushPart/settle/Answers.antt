use Rattle.std.proofs.Common.{map, sym, ap, arith, ◌∙◌}
use Rattle.board.specs.Views.{FlusherCount}
use Rattle.threads_flusher.specs.Part.{flush_value, publication_of}
use Rattle.threads_flusher.proofs.Keeping.{kept_by_look}
use Rattle.threads_flusher.proofs.Notes.{safe_since}
use Rattle.threads_flusher.proofs.part.FlushPart.settle.Goals as goal

pub settle-requires : goal.settle-requires
settle-requires g c = record { flush = c.self.invariant.4 ∙ sym c.requires.board; view = c.requires.view }

pub invariant_of-self : goal.invariant_of-self
invariant_of-self g c =
    let same = c.settle.ensures.same in
    let kept = kept_by_look g.D.Device.past_of g.D.Device.marks g.B.Group.site.opened _ _ _ _ _ (c.self.invariant.1, c.self.invariant.2) c.settle.new.flush
    c.self.inside.view.stopped same in
    (c.self.invariant.0, kept.0, kept.1, c.self.invariant.3, ap (λ (n : FlusherCount). n.board) same ∙ c.self.invariant.4)

pub returns : goal.returns
returns g c =
    rw (← c.self.view_is) (
    let inside = c.self.inside in
    let is = c.settle.ensures in
    record {
      same = ap (λ (v : FlusherCount). flush_value inside.popper.records inside.held.items inside.writer v
          (map (publication_of g.D.Device.past_of) inside.publications.items)) is.same;
      horizon = is.horizon;
      synced = omega (arith, is.horizon, c.self.invariant.2.horizon);
      failed = λ seen. sym c.self.invariant.2.failed ∙ is.failed seen;
      noted = safe_since g.D.Device.marks (map (publication_of g.D.Device.past_of) inside.publications.items) inside.view.notes c.args.view.now.safe
          c.args.view.now.mark c.self.invariant.2.noted is.noted;
      view = is.informed;
    })
