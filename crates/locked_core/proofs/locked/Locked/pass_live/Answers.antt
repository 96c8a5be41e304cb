use Rattle.std.proofs.Common.{map}
use Rattle.std.proofs.Math.Logic.{∥∥₁_map}
use Rattle.nsf_core.specs.Value.{value_of}
use Rattle.threads_sessions.specs.Halves.{shown}
use Rattle.locked_core.proofs.Kept.{passed_kept}
use Rattle.locked_core.proofs.locked.Locked.pass_live.Goals as goal

pub invariant_of-self : goal.invariant_of-self
invariant_of-self g c = record {
  queue = c.args.self.now.queue;
  seats = c.args.self.now.seats;
  halves = c.args.self.now.halves;
  shared = ∥∥₁_map c.args.self.now.shared (passed_kept g.B.Group.site.opened c.args.self.now.pusher.records (map shown c.args.self.now.book.items)
      (value_of c.args.self.now.core) (value_of c.pass_live.new.self) c.args.runs c.pass_live.ensures);
}
