use Rattle.std.proofs.Common.{ap, ◌∙◌}
use Rattle.board.specs.Views.{FlusherCount}
use Rattle.threads_flusher.proofs.Keeping.{kept_by_look}
use Rattle.threads_flusher.proofs.part.FlushPart.stopped.Goals as goal

pub invariant_of-self : goal.invariant_of-self
invariant_of-self g c =
    let looks = c.stopped_flusher.ensures.seen in
    let kept = kept_by_look g.D.Device.past_of g.D.Device.marks g.B.Group.site.opened _ _ _ _ _
    (c.self.invariant.1, c.self.invariant.2) c.stopped_flusher.new.view _ looks in
    (c.self.invariant.0, kept.0, kept.1, c.self.invariant.3, ap (λ (n : FlusherCount). n.board) looks ∙ c.self.invariant.4)
