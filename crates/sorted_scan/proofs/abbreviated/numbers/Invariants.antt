use Rattle.std.proofs.Common.{◌≡◌, ◌<◌, ◌%◌, All, length}
use Rattle.sorted_scan.specs.declared.abbreviated.TheConstants.{PLACES}
use Rattle.sorted_scan.proofs.abbreviated.numbers.Given as goal

abbrev pub invariant-loop-place : goal.invariant-loop-place
invariant-loop-place g l = (length l.numbers.items ≡ l.place) × All (λ n. n % PLACES < length l.pairs) l.numbers.items
