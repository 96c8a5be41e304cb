use Rattle.std.proofs.Common.{◌<◌, All, length}
use Rattle.std.specs.List.Sorted.{IsPermutation}
use Rattle.sorted_scan.proofs.abbreviated.settle.Given as goal

abbrev pub invariant-loop-i : goal.invariant-loop-i
invariant-loop-i l = IsPermutation l.initial.pairs l.pairs × All (λ p. p < length l.initial.pairs) l.places × All (λ p. p < length l.initial.pairs) l.standing
