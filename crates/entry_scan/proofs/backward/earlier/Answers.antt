use Rattle.std.proofs.Common.{ap, is_lt, sym, ◌&&◌, ◌∙◌}
use Rattle.entry_scan.specs.Backward.{is_before}
use Rattle.entry_scan.proofs.KeyOrder.{before_first, before_second}
use Rattle.entry_scan.proofs.backward.earlier.Goals as goal

pub returns-then-is_lt : goal.returns-then-is_lt
returns-then-is_lt c = λ p.
    before_second c.in-Some.first c.in-Some-other.second p (ap is_lt (sym c.compare_pairs.ensures) ∙ sym c.if-is_lt.ensures)
    ∙ (λ i. is_before (sym c.in-Some.is i) p && is_before (sym c.in-Some-other.is i) p)

pub returns-else-is_lt : goal.returns-else-is_lt
returns-else-is_lt c = λ p.
    before_first c.in-Some.first c.in-Some-other.second p (ap is_lt (sym c.compare_pairs.ensures) ∙ sym c.if-is_lt.ensures)
    ∙ (λ i. is_before (sym c.in-Some.is i) p && is_before (sym c.in-Some-other.is i) p)
