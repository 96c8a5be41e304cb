use Rattle.threads_loops.specs.Copying.{HasImage, IsWanted, StandsBy}
use Rattle.threads_loops.specs.Through.{PassesThrough}
use Rattle.threads_loops.proofs.flush.copy_some.Given as goal

abbrev pub invariant-loop : goal.invariant-loop
invariant-loop g l = record {
  through : PassesThrough g.D.Device.past_of g.D.Device.marks g.D.Device.failures g.B.Group.site.opened l.fn.part l.part;
  copying : StandsBy l.part;
  image : IsWanted l.fn.part → HasImage l.fn.part l.part;
}
