use Rattle.std.proofs.Common.{◌≡◌, ◌<◌, All, length}
use Rattle.sorted_scan.proofs.abbreviated.all_below.Given as goal

abbrev pub invariant-loop-number : goal.invariant-loop-number
invariant-loop-number g l = (length l.all.items ≡ l.number) × All (λ n. n < l.count) l.all.items
