use Rattle.std.proofs.Common.{◌≡◌, ◌+◌, drop}
use Rattle.txn_table.specs.Places.{place_of}
use Rattle.txn_table.proofs.table.place_of.Given as goal

abbrev pub invariant-loop-i : goal.invariant-loop-i
invariant-loop-i g l = l.i + place_of l.txn (drop l.i l.active.entries) ≡ place_of l.txn l.active.entries
