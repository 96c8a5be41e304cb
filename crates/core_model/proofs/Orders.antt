-- The orders of places and pairs, and a function updated at one argument.
use Rattle.std.proofs.Common.{Bool, None, Option, Some, ap, cond, false, inl, inr, refl, subst, sym, true, true≢false, ◌∙◌, ◌≡◌, ◌≢◌, ◌⊎◌}
use Rattle.std.specs.Cmp.{Equal-is, IsTotalOrder, tied_itself}
use Rattle.std.specs.FinMap.{IsAntisymmetric}
use Rattle.std.specs.Ordering.{eq_by_cmp, is_eq, is_lt, ordering_reverse}
use Rattle.std.specs.declared.cmp.Ordering.{Ordering}
use Rattle.std.specs.declared.cmp.Ordering.TheVariants.{Equal, Greater, Less}
use mathlib.Core.Path.{fun_ext}
use Rattle.record_values.specs.Orders.{pair_cmp, pair_cmp-IsAntisymmetric, pair_cmp_total, is_above}
use Rattle.record_values.specs.declared.pair.Pair.{Pair}
use Rattle.core_model.specs.Steps.{update}

module _ {K : Type 0} {R : K → K → Ordering} (o : IsTotalOrder R) where
  pub level : (k : K) → eq_by_cmp R k k ≡ true
  level k = ap is_eq (tied_itself o k)

  not_by : (q k : K) → eq_by_cmp R q k ≡ false → q ≢ k
  not_by q k e n = true≢false (sym (level q) ∙ subst (λ (x : K). eq_by_cmp R q x ≡ false) (sym n) e)

  decided_by : IsAntisymmetric R → (q k : K) (b : Bool) → eq_by_cmp R q k ≡ b → (q ≡ k) ⊎ (q ≢ k)
  decided_by same q k true e = inl (same q k ((Equal-is (R q k)).0 e))
  decided_by same q k false e = inr (not_by q k e)

  pub decided : IsAntisymmetric R → (q k : K) → (q ≡ k) ⊎ (q ≢ k)
  decided same q k = decided_by same q k _ refl

  module _ {X : Type 0} where
    pub update_here : (f : K → X) (k : K) (v : X) → update R f k v k ≡ v
    unfolding update
    update_here f k v = rw (level k)

shadowed : {X : Type 0} (b : Bool) (w v x : X) → cond b w (cond b v x) ≡ cond b w x
shadowed true w v x = refl
shadowed false w v x = refl

pub update_twice : {K X : Type 0} (R : K → K → Ordering) (f : K → X) (k : K) (v w : X) → update R (update R f k v) k w ≡ update R f k w
unfolding update
update_twice R f k v w = fun_ext (λ q. shadowed (eq_by_cmp R q k) w v (f q))

module _ {K : Type 0} {R : K → K → Ordering} (same : IsAntisymmetric R) where
  pub by_test : (q k : K) → eq_by_cmp R q k ≡ true → q ≡ k
  by_test q k e = same q k ((Equal-is (R q k)).0 e)

  apart_by : (q k : K) (b : Bool) → eq_by_cmp R q k ≡ b → q ≢ k → eq_by_cmp R q k ≡ false
  apart_by q k true e n = absurd (n (by_test q k e))
  apart_by q k false e n = e

  pub apart : (q k : K) → q ≢ k → eq_by_cmp R q k ≡ false
  apart q k n = apart_by q k _ refl n

  module _ {X : Type 0} where
    pub update_apart : (f : K → X) (k : K) (v : X) (q : K) → q ≢ k → update R f k v q ≡ f q
    unfolding update
    update_apart f k v q n = rw (apart q k n)

less_is : (o : Ordering) → is_lt o ≡ true → o ≡ Less
less_is Less e = refl
less_is Equal e = absurd (true≢false (sym e))
less_is Greater e = absurd (true≢false (sym e))

pub above_trans : (b : Option Pair) (p q : Pair) → is_above b p ≡ true → is_above (Some p) q ≡ true → is_above b q ≡ true
above_trans None p q h k = refl
above_trans (Some b) p q h k = ap is_lt (pair_cmp_total.trans b p q (less_is _ h) (less_is _ k))

pub above_self : (p : Pair) → is_above (Some p) p ≡ false
above_self p = ap is_lt (tied_itself pair_cmp_total p)

not_above_by : (p q : Pair) (o : Ordering) → pair_cmp p q ≡ o → is_lt o ≡ false → (q ≡ p) ⊎ (is_above (Some q) p ≡ true)
not_above_by p q Less e h = absurd (true≢false h)
not_above_by p q Equal e h = inl (sym (pair_cmp-IsAntisymmetric p q e))
not_above_by p q Greater e h = inr (ap is_lt (pair_cmp_total.antisymm q p ∙ ap ordering_reverse e))

-- a pair that isn't is_above another is that one, or below it
pub not_above : (p q : Pair) → is_above (Some p) q ≡ false → (q ≡ p) ⊎ (is_above (Some q) p ≡ true)
not_above p q h = not_above_by p q (pair_cmp p q) refl h
