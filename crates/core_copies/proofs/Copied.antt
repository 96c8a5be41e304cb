-- Entries that are copied one after another, in order.
use Rattle.std.proofs.Common.{◌≡◌, ◌≢◌, ◌⊎◌, inl, inr, ⊎_elim, Option, Some, None, refl, sym, ap}
use Rattle.std.proofs.Common.{subst, ◌∙◌}
use Rattle.std.specs.FinMap.{empty, get, get-empty}
use Rattle.std.specs.Cmp.{tied_itself}
use Rattle.std.specs.Ordering.{ordering_reverse}
use Rattle.std.specs.declared.cmp.Ordering.{Ordering}
use Rattle.std.specs.declared.cmp.Ordering.TheVariants.{Equal, Greater, Less}
use Rattle.record_values.specs.Maps.{alike, get-set_at_other, get-set_at_same, pair_exact, set_at}
use Rattle.record_values.specs.Orders.{pair_cmp, pair_cmp_total}
use Rattle.record_values.specs.declared.pair.Mark.{Mark}
use Rattle.record_values.specs.declared.pair.Pair.{Pair}
use Rattle.record_values.specs.Entries.{Index}
use Rattle.store_image_model.specs.Partly.{IsUpTo}
use Rattle.store_image_model.proofs.Steps.{up_to_or_not}
use Rattle.btree_node.specs.Above.{IsAfter, IsLeastAbove}

-- ---- pairs up to another, and after it

less_not : (o : Ordering) → o ≡ Less → o ≡ Greater → ⊥
less_not o is other = let no : Less ≡ Greater = sym is ∙ other in absurd cc

reversed : (p q : Pair) → pair_cmp p q ≡ Less → pair_cmp q p ≡ Greater
reversed p q less = pair_cmp_total.antisymm q p ∙ ap ordering_reverse less

not_up : (last : Option Pair) (q : Pair) → IsAfter last q → ¬ IsUpTo last q
not_up None q after = λ up. up
not_up (Some l) q after = λ up. up (reversed l q after)

is_after : (last : Option Pair) (q : Pair) → ¬ IsUpTo last q → IsAfter last q
is_after None q not = tt
is_after (Some l) q not = by (pair_cmp q l) refl
  where
    by : (o : Ordering) → pair_cmp q l ≡ o → pair_cmp l q ≡ Less
    by Less is = absurd (not (less_not (pair_cmp q l) is))
    by Equal is = absurd (not (λ other. let no : Equal ≡ Greater = sym is ∙ other in cc))
    by Greater is = pair_cmp_total.antisymm l q ∙ ap ordering_reverse is

-- what is up to a pair is below what comes after it
below_after : (last : Option Pair) (p q : Pair) → IsUpTo last p → IsAfter last q → pair_cmp p q ≡ Less
below_after None p q up after = absurd up
below_after (Some l) p q up after = by (pair_cmp p l) refl
  where
    by : (o : Ordering) → pair_cmp p l ≡ o → pair_cmp p q ≡ Less
    by Less is = pair_cmp_total.trans p l q is after
    by Equal is = pair_cmp_total.congr p l q is ∙ after
    by Greater is = absurd (up is)

-- ---- the entries above one pair and up to another
pub record AreUpTo (all : Index) (above last : Option Pair) (more : Index) : Type 0 where
  pub further : (p : Pair) → IsUpTo above p → IsUpTo last p
  pub there : (p : Pair) → ¬ IsUpTo above p → IsUpTo last p → get more p ≡ get all p
  pub below : (p : Pair) → IsUpTo above p → get more p ≡ None
  pub past : (p : Pair) → ¬ IsUpTo last p → get more p ≡ None

pub none_copied : (all : Index) (above : Option Pair) → AreUpTo all above above empty
none_copied all above = record {
  further = λ p up. up;
  there = λ p not up. absurd (not up);
  below = λ p up. get-empty pair_cmp p;
  past = λ p not. get-empty pair_cmp p;
}

some_none : (m : Mark) → (◌≡◌ {A = Option Mark} None (Some m)) → ⊥
some_none m e = absurd cc

module _ (all : Index) (above last : Option Pair) (more : Index) (h : AreUpTo all above last more) (e : Pair
    × Mark) (least : IsLeastAbove all last (Some e)) where
  -- up to the next one is what was up to the last one, and the next one
  split : (p : Pair) → IsUpTo (Some e.0) p → IsUpTo last p ⊎ (¬ IsUpTo last p) × ((p ≡ e.0) ⊎ (pair_cmp p e.0 ≡ Less))
  split p up = ⊎_elim (λ old. inl old) (λ new. inr (new, by (pair_cmp p e.0) refl)) (up_to_or_not last p)
    where
      by : (o : Ordering) → pair_cmp p e.0 ≡ o → (p ≡ e.0) ⊎ (pair_cmp p e.0 ≡ Less)
      by Less is = inr is
      by Equal is = inl (pair_exact.only_equal p e.0 is)
      by Greater is = absurd (up is)

  new_not_up : ¬ IsUpTo last e.0
  new_not_up = not_up last e.0 least.0

  -- a map that has this entry more
  pub one_copied : (new : Index) → get new e.0 ≡ Some e.1 → ((p : Pair) → p ≢ e.0 → get new p ≡ get more p) → AreUpTo all above (Some e.0) new
  one_copied new own others = record {
    further = λ p up. λ greater. up_below p (h.further p up) greater;
    there = λ p not up. there p not (split p up);
    below = λ p up. others p (λ same. new_not_up (h.further e.0 (subst (IsUpTo above) same up))) ∙ h.below p up;
    past = λ p not. others p (λ same. not (subst (IsUpTo (Some e.0)) (sym same) itself)) ∙ h.past p (λ up. not (λ greater. up_below p up greater));
  }
    where
      up_below : (p : Pair) → IsUpTo last p → pair_cmp p e.0 ≡ Greater → ⊥
      up_below p up greater = less_not (pair_cmp p e.0) (below_after last p e.0 up least.0) greater

      itself : IsUpTo (Some e.0) e.0
      itself greater = let no : Equal ≡ Greater = sym (tied_itself pair_cmp_total e.0) ∙ greater in absurd cc

      there : (p : Pair) → ¬ IsUpTo above p → IsUpTo last p ⊎ (¬ IsUpTo last p) × ((p ≡ e.0) ⊎ (pair_cmp p e.0 ≡ Less)) → get new p ≡ get all p
      there p not (inl old) = others p (λ same. new_not_up (subst (IsUpTo last) same old)) ∙ h.there p not old
      there p not (inr (new_one, inl same)) = ap (get new) same ∙ own ∙ sym (least.1) ∙ sym (ap (get all) same)
      there p not (inr (new_one, inr less)) =
          others p (λ same. less_not (pair_cmp p e.0) less (absurd_same p same less))
          ∙ h.past p new_one ∙ sym (least.2 p (is_after last p new_one) less)
        where
          absurd_same : (p : Pair) → p ≡ e.0 → pair_cmp p e.0 ≡ Less → pair_cmp p e.0 ≡ Greater
          absurd_same p same less = let no : Less ≡ Equal = sym less ∙ ap (λ x. pair_cmp x e.0) same ∙ tied_itself pair_cmp_total e.0 in absurd cc

  -- the entry is put into a map
  pub one_put : AreUpTo all above (Some e.0) (set_at more e.0 (Some e.1))
  one_put = one_copied (set_at more e.0 (Some e.1)) (get-set_at_same pair_exact more e.0 (Some e.1)) (λ p apart.
      get-set_at_other pair_exact more e.0 (Some e.1) p apart)

module _ (all : Index) (above last : Option Pair) (more : Index) (h : AreUpTo all above last more) where
  -- no entry after the last one is copied
  pub past_none : (q : Pair) → IsAfter last q → get more q ≡ None
  past_none q after = h.past q (not_up last q after)

  -- and what is copied is below a pair after that
  pub below_up : (p : Pair) (a : Mark) → get more p ≡ Some a → (q : Pair) → IsAfter last q → pair_cmp p q ≡ Less
  below_up p a here q after = ⊎_elim (λ up. below_after last p q up after) (λ past. absurd (some_none a (sym (h.past p past) ∙ here))) (up_to_or_not last p)

-- no entry is left
pub all_copied : (all : Index) (above last : Option Pair) (more : Index) → AreUpTo all above last more → IsLeastAbove all last None → (p : Pair)
    → ¬ IsUpTo above p → get more p ≡ get all p
all_copied all above last more h none p not = ⊎_elim (λ up. h.there p not up) (λ past. h.past p past
    ∙ sym (none p (is_after last p past))) (up_to_or_not last p)

pub whole_copied : (all : Index) (last : Option Pair) (more : Index) → AreUpTo all None last more → IsLeastAbove all last None → more ≡ all
whole_copied all last more h none = alike pair_exact more all (λ p. all_copied all None last more h none p (λ up. up))
