use Rattle.threads_loops.specs.Copying.{StandsBy}
use Rattle.threads_loops.specs.Through.{RunsThrough}
use Rattle.threads_loops.proofs.flush.flush_until.Given as goal

abbrev pub invariant-loop : goal.invariant-loop
invariant-loop g l = record {
  through : RunsThrough g.D.Device.past_of g.D.Device.marks g.D.Device.failures g.B.Group.site.opened l.fn.part l.part;
  copying : StandsBy l.part;
}
