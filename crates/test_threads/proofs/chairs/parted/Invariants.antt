use Rattle.std.proofs.Common.{length}
use Rattle.std.specs.Prelude.{IsTrue}
use Rattle.threads_lifetime.specs.Gathered.{AreAllSeats}
use Rattle.test_threads.proofs.chairs.parted.Given as goal

abbrev pub invariant-loop-chair : goal.invariant-loop-chair
invariant-loop-chair g l = IsTrue l.ordered → AreAllSeats (length l.seats.items) l.seats.items
