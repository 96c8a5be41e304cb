-- Where neither of two comes before the other, they are one.
use Rattle.std.proofs.Common.{ap, false, sym, true≢false, ◌∙◌, ◌≡◌}
use Rattle.std.specs.Cmp.{IsTotalOrder}
use Rattle.std.specs.FinMap.{IsAntisymmetric}
use Rattle.std.specs.Ordering.{is_lt, ordering_reverse}
use Rattle.std.specs.declared.cmp.Ordering.{Ordering}
use Rattle.std.specs.declared.cmp.Ordering.TheVariants.{Equal, Greater, Less}

pub level_by : {K : Type 0} {R : K → K → Ordering} → IsTotalOrder R → IsAntisymmetric R → (a b : K) (o : Ordering) → R a b ≡ o → is_lt o ≡ false
    → is_lt (R b a) ≡ false → a ≡ b
level_by total same a b Less e before after = absurd (true≢false before)
level_by total same a b Equal e before after = same a b e
level_by total same a b Greater e before after = absurd (true≢false (sym (ap is_lt (total.antisymm b a ∙ ap ordering_reverse e)) ∙ after))
