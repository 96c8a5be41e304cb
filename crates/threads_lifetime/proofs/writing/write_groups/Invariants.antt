use Rattle.std.proofs.Common.{◌≡◌, ◌-◌}
use Rattle.store_writer.specs.Parts.{synced_of}
use Rattle.threads_flusher.specs.Part.{last_handed}
use Rattle.threads_lifetime.specs.Written.{WritesOn}
use Rattle.threads_lifetime.proofs.writing.write_groups.Given as goal

abbrev pub invariant-loop-flush : goal.invariant-loop-flush
invariant-loop-flush g l = record {
  writes : WritesOn g.D.Device.past_of g.D.Device.failures g.B.Group.site.opened l.fn.flush l.flush;
  handed : l.flush.handed ≡ l.fn.flush.handed;
}

abbrev pub decreases-loop-flush : goal.decreases-loop-flush
decreases-loop-flush g l = last_handed g.B.Group.site.opened l.flush - synced_of l.flush.writer
