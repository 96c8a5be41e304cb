use Rattle.std.proofs.Common.{subst}
use Rattle.threads_flusher.specs.Part.{FlushValue, FlushLeaves}
use Rattle.threads_flusher.proofs.Keeping.{is_left}
use Rattle.threads_flusher.proofs.part.FlushPart.into_parts.Goals as goal

pub returns-clause-images : goal.returns-clause-images
returns-clause-images g c image crash =
    let o = g.B.Group.site.opened in
    subst (λ (x : FlushValue _ _). FlushLeaves o x image) c.self.view_is
    (is_left g.D.Device.past_of g.D.Device.marks o _ c.self.invariant.2 image (c.into_device.ensures.images _ _ c.self.invariant.2.writer image crash))
