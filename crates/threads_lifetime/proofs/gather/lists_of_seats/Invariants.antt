use Rattle.std.proofs.Common.{◌≡◌}
use Rattle.threads_lifetime.specs.Gathered.{commits_of, lists_of, sessions_of}
use Rattle.threads_lifetime.proofs.gather.lists_of_seats.Given as goal

abbrev pub invariant-loop-seat : goal.invariant-loop-seat
invariant-loop-seat g l = record {
  can : (goal.iterator-loop-seat g).can_next l.seat-iterator;
  finite : (goal.iterator-loop-seat g).is_finite l.seat-iterator;
  lists : lists_of l.lists.items ≡ commits_of (sessions_of l.yielded);
}
