use Rattle.std.proofs.Common.{◌≡◌, length}
use Rattle.heap_pages.proofs.Sets.{AreWholeRuns}
use Rattle.heap_pages.proofs.heap.all_open.Given as goal

abbrev pub invariant-loop : goal.invariant-loop
invariant-loop g l = (length l.sets.items ≡ l.counter) × AreWholeRuns l.sets.items
