-- The orders of places and pairs, and a function changed at one place.
use Rattle.std.proofs.Common.{Bool, List, None, Option, Some, ap, cond, false, inl, inr, refl, subst, sym, true, true≢false, ℕ, ◌∙◌, ◌≡◌, ◌≢◌, ◌⊎◌}
use Rattle.std.specs.Cmp.{Equal-is, IsTotalOrder, tied_itself}
use Rattle.std.specs.Cmp.Lexicographic.{nat_list_cmp_total}
use Rattle.std.specs.FinMap.{IsAntisymmetric, nat_cmp-IsAntisymmetric, slice_cmp-IsAntisymmetric}
use Rattle.std.specs.Ordering.{eq_by_cmp, is_eq, is_lt, ordering_reverse}
use Rattle.std.specs.declared.cmp.Ordering.{Ordering}
use Rattle.std.specs.declared.cmp.Ordering.TheVariants.{Equal, Greater, Less}
use Rattle.record_values.specs.Orders.{is_above, pair_cmp, pair_cmp-IsAntisymmetric, pair_cmp_total, rid_cmp-IsAntisymmetric, rid_cmp_total}
use Rattle.record_values.specs.Values.{Place}
use Rattle.record_values.specs.declared.pair.Pair.{Pair}
use Rattle.online_model.specs.World.{is_pair_of, pair_at, with_at}

module _ {K : Type 0} {R : K → K → Ordering} (o : IsTotalOrder R) (same : IsAntisymmetric R) where
  level : (k : K) → eq_by_cmp R k k ≡ true
  level k = ap is_eq (tied_itself o k)

  pub by_test : (q k : K) → eq_by_cmp R q k ≡ true → q ≡ k
  by_test q k e = same q k ((Equal-is (R q k)).0 e)

  not_by : (q k : K) → eq_by_cmp R q k ≡ false → q ≢ k
  not_by q k e n = true≢false (sym (level q) ∙ subst (λ (x : K). eq_by_cmp R q x ≡ false) (sym n) e)

  decided_by : (q k : K) (b : Bool) → eq_by_cmp R q k ≡ b → (q ≡ k) ⊎ (q ≢ k)
  decided_by q k true e = inl (by_test q k e)
  decided_by q k false e = inr (not_by q k e)

  pub decided : (q k : K) → (q ≡ k) ⊎ (q ≢ k)
  decided q k = decided_by q k _ refl

  pub is_itself : (k : K) → eq_by_cmp R k k ≡ true
  is_itself = level

  apart_by : (q k : K) (b : Bool) → eq_by_cmp R q k ≡ b → q ≢ k → eq_by_cmp R q k ≡ false
  apart_by q k true e n = absurd (n (by_test q k e))
  apart_by q k false e n = e

  pub apart : (q k : K) → q ≢ k → eq_by_cmp R q k ≡ false
  apart q k n = apart_by q k _ refl n

pub rid_decided : (a b : Place) → (a ≡ b) ⊎ (a ≢ b)
rid_decided = decided rid_cmp_total rid_cmp-IsAntisymmetric

pub pair_decided : (a b : Pair) → (a ≡ b) ⊎ (a ≢ b)
pair_decided = decided pair_cmp_total pair_cmp-IsAntisymmetric

module _ {X : Type 0} (f : Place → X) (r : Place) (x : X) where
  pub with_here : with_at f r x r ≡ x
  unfolding with_at
  with_here = ap (λ b. cond b x (f r)) (is_itself rid_cmp_total rid_cmp-IsAntisymmetric r)

  pub with_apart : (q : Place) → q ≢ r → with_at f r x q ≡ f q
  unfolding with_at
  with_apart q n = ap (λ b. cond b x (f q)) (apart rid_cmp_total rid_cmp-IsAntisymmetric q r n)

less_is : (o : Ordering) → is_lt o ≡ true → o ≡ Less
less_is Less e = refl
less_is Equal e = absurd (true≢false (sym e))
less_is Greater e = absurd (true≢false (sym e))

pub above_trans : (b : Option Pair) (p q : Pair) → is_above b p ≡ true → is_above (Some p) q ≡ true → is_above b q ≡ true
above_trans None p q h k = refl
above_trans (Some b) p q h k = ap is_lt (pair_cmp_total.trans b p q (less_is _ h) (less_is _ k))

not_above_by : (p q : Pair) (o : Ordering) → pair_cmp p q ≡ o → is_lt o ≡ false → (q ≡ p) ⊎ (is_above (Some q) p ≡ true)
not_above_by p q Less e h = absurd (true≢false h)
not_above_by p q Equal e h = inl (sym (pair_cmp-IsAntisymmetric p q e))
not_above_by p q Greater e h = inr (ap is_lt (pair_cmp_total.antisymm q p ∙ ap ordering_reverse e))

-- a pair that isn't above another is that one, or below it
pub not_above : (p q : Pair) → is_above (Some p) q ≡ false → (q ≡ p) ⊎ (is_above (Some q) p ≡ true)
not_above p q h = not_above_by p q (pair_cmp p q) refl h

pub not_none : {A : Type 0} {a : A} {o : Option A} → o ≡ Some a → o ≡ None → ⊥
not_none e n = absurd (cc)

pub same_some : {A : Type 0} {a b : A} {o : Option A} → o ≡ Some a → o ≡ Some b → a ≡ b
same_some p q = cc

-- a pair with this key and this place
pub pair_is : (q : Pair) (r : Place) (key : List ℕ) → key ≡ q.key → q.rid ≡ r → pair_at r key ≡ q
pair_is q r key k e = λ i. record { key = k i; rid = sym e i }

-- a test that finds the pair of a row
pub pair_by_test : (o : Option (List ℕ)) (p : Pair) → is_pair_of o p ≡ true → o ≡ Some p.key
pair_by_test None p t = absurd (true≢false (sym t))
pair_by_test (Some key) p t = ap Some (by_test nat_list_cmp_total (slice_cmp-IsAntisymmetric nat_cmp-IsAntisymmetric) key p.key t)

pub test_by_pair : (o : Option (List ℕ)) (p : Pair) → o ≡ Some p.key → is_pair_of o p ≡ true
test_by_pair o p e = ap (λ v. is_pair_of v p) e ∙ is_itself nat_list_cmp_total (slice_cmp-IsAntisymmetric nat_cmp-IsAntisymmetric) p.key
