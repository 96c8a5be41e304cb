use Rattle.std.proofs.Common.{◌≡◌}
use Rattle.std.specs.Cmp.Lexicographic.{slice_cmp}
use Rattle.std.specs.Ordering.{nat_cmp}
use Rattle.record_values.proofs.Words.{rest_cmp}
use Rattle.record_values.proofs.short_bytes.order.Given as goal

abbrev pub invariant-loop-i : goal.invariant-loop-i
invariant-loop-i l = slice_cmp nat_cmp l.some l.other ≡ rest_cmp l.i l.some l.other
