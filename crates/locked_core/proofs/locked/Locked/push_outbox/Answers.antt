use Rattle.std.proofs.Common.{arith, map}
use Rattle.std.proofs.lemmas.Grind.{common_steps}
use Rattle.std.proofs.Math.Logic.{∥∥₁_map}
use Rattle.nsf_core.specs.Value.{value_of}
use Rattle.threads_sessions.specs.Halves.{shown}
use Rattle.locked_core.proofs.Kept.{pushed_kept}
use Rattle.locked_core.proofs.locked.Locked.push_outbox.Goals as goal

pub invariant_of-self : goal.invariant_of-self
invariant_of-self g c = record {
  queue = c.take_outbox.new.sink.pusher_is;
  seats = c.args.self.now.seats;
  halves = c.args.self.now.halves;
  shared = ∥∥₁_map c.args.self.now.shared (λ shared.
      pushed_kept g.B.Group.site.opened (value_of c.args.self.now.core) (value_of c.take_outbox.new.self) c.args.self.now.pusher.records
      (map shown c.args.self.now.book.items) shared _ c.take_outbox.ensures.handed);
}

pub returns-clause-none_waits : goal.returns-clause-none_waits
returns-clause-none_waits g c = grind (arith, common_steps)
