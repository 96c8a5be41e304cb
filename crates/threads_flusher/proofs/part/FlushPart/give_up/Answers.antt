use Rattle.std.proofs.Common.{ap}
use Rattle.store_writer.specs.Parts.{device_of, has_failed, synced_of}
use Rattle.threads_flusher.proofs.Keeping.{kept_without}
use Rattle.threads_flusher.proofs.part.FlushPart.give_up.Goals as goal

pub invariant_of-self : goal.invariant_of-self
invariant_of-self g c =
    let same = c.give_up.ensures.gives_up in
    let kept = kept_without g.D.Device.past_of g.D.Device.marks g.B.Group.site.opened _ _ _ _ _ (c.self.invariant.1, c.self.invariant.2) c.give_up.new.self
    c.give_up.ensures.writer (ap (λ w. device_of w) same) (ap (λ w. synced_of w) same) (ap (λ w. has_failed w) same) in
    (c.self.invariant.0, kept.0, kept.1, c.self.invariant.3, c.self.invariant.4)
