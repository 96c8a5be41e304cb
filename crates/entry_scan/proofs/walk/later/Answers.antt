use Rattle.std.proofs.Common.{ap, is_lt, sym, ◌&&◌, ◌∙◌}
use Rattle.record_values.specs.Orders.{is_above}
use Rattle.entry_scan.proofs.KeyOrder.{above_first, above_second}
use Rattle.entry_scan.proofs.walk.later.Goals as goal

pub returns-then-is_lt : goal.returns-then-is_lt
returns-then-is_lt c = λ p.
    above_second c.in-Some.first c.in-Some-other.second p (ap is_lt (sym c.compare_pairs.ensures) ∙ sym c.if-is_lt.ensures)
    ∙ (λ i. is_above (sym c.in-Some.is i) p && is_above (sym c.in-Some-other.is i) p)

pub returns-else-is_lt : goal.returns-else-is_lt
returns-else-is_lt c = λ p.
    above_first c.in-Some.first c.in-Some-other.second p (ap is_lt (sym c.compare_pairs.ensures) ∙ sym c.if-is_lt.ensures)
    ∙ (λ i. is_above (sym c.in-Some.is i) p && is_above (sym c.in-Some-other.is i) p)
