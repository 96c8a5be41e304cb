use Rattle.std.proofs.Common.{◌≡◌, length}
use Rattle.block_journal.proofs.gathered.zeros.Given as goal

abbrev pub invariant-loop : goal.invariant-loop
invariant-loop g l = length l.area.items ≡ l.counter
