use Rattle.std.proofs.Common.{map, slice_index, ℕ, ◌+◌, ◌<◌}
use Rattle.online_index.proofs.walk.rises.Given as goal
use Rattle.record_values.specs.declared.pair.Pair.{Pair}

abbrev pub invariant-loop-i : goal.invariant-loop-i
invariant-loop-i l = (k : ℕ) → k + 1 < l.i
    → slice_index (map (λ (p : Pair). p.rid.slot) l.pairs) k < slice_index (map (λ (p : Pair). p.rid.slot) l.pairs) (k + 1)
