use Rattle.std.proofs.Common.{◌≡◌, ◌≤◌, All}
use Rattle.shared.specs.Seats.{AckValue}
use Rattle.store_writer.specs.Parts.{synced_of}
use Rattle.threads_lifetime.proofs.closing.settle_all.Given as goal

abbrev pub invariant-loop-ack : goal.invariant-loop-ack
invariant-loop-ack g l = record {
  can : (goal.iterator-loop-ack g).can_next l.ack-iterator;
  finite : (goal.iterator-loop-ack g).is_finite l.ack-iterator;
  same : l.flush ≡ l.fn.flush;
  horizon : All (λ (a : AckValue). a.ticket.«record» ≤ l.fn.flush.published.horizon) l.yielded;
  reached : All (λ (a : AckValue). a.ticket.«record» ≤ synced_of l.fn.flush.writer) l.yielded;
}
