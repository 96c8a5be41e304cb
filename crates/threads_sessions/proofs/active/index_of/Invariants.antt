use Rattle.std.proofs.Common.{◌≡◌, drop}
use Rattle.threads_sessions.specs.Active.{place_from}
use Rattle.threads_sessions.proofs.active.index_of.Given as goal

abbrev pub invariant-loop-i : goal.invariant-loop-i
invariant-loop-i g l = place_from l.txn l.i (drop l.i l.active) ≡ place_from l.txn 0 l.active
