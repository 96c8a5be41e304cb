-- Lists from the end.
use Rattle.std.proofs.Common.{◌≡◌, Bool, true, false, cond, List, [], ◌∷◌, ◌++◌, filter, Contains, refl, ap, sym, subst, ◌∙◌, inl, inr}
use Rattle.std.proofs.lemmas.List.{reverse-append}
use Rattle.std.proofs.lemmas.List.Elements.{Contains-append_cases, Contains-append_left, Contains-append_right, filter-append}
use Rattle.std.specs.List.{AllByRecursion}
use Rattle.std.specs.List.Sorted.{IsStrictlySortedBy}
use Rattle.std.specs.Prelude.{reverse}
use Rattle.std.specs.declared.cmp.Ordering.{Ordering}
use Rattle.std.specs.declared.cmp.Ordering.TheVariants.{Less}
use Rattle.entry_scan.proofs.Filtered.{has_cases, has_first, has_later, none_has}

module _ {X : Type 0} where
  pub first_is_last : (x : X) (xs : List X) → reverse (x ∷ xs) ≡ reverse xs ++ x ∷ []
  first_is_last x xs = reverse-append (x ∷ []) xs

  pub last_is_first : (xs : List X) (x : X) → reverse (xs ++ x ∷ []) ≡ x ∷ reverse xs
  last_is_first xs x = reverse-append xs (x ∷ [])

  -- what a filter keeps from the end is what it keeps, from the end
  pub filter_reverse : (f : X → Bool) (xs : List X) → filter f (reverse xs) ≡ reverse (filter f xs)
  filter_reverse f [] = refl
  filter_reverse f (x ∷ xs) = ap (filter f) (first_is_last x xs) ∙ filter-append f (reverse xs) (x ∷ [])
      ∙ ap (λ (ys : List X). ys ++ filter f (x ∷ [])) (filter_reverse f xs) ∙ by (f x)
    where
      by : (b : Bool) → reverse (filter f xs) ++ cond b (x ∷ []) [] ≡ reverse (cond b (x ∷ filter f xs) (filter f xs))
      by true = sym (first_is_last x (filter f xs))
      by false = append_nothing (reverse (filter f xs))
        where
          append_nothing : (ys : List X) → ys ++ [] ≡ ys
          append_nothing [] = refl
          append_nothing (y ∷ ys) = ap (λ (zs : List X). y ∷ zs) (append_nothing ys)

  -- ---- what a list has from the end

  pub reverse_has : (xs : List X) (y : X) → Contains xs y → Contains (reverse xs) y
  reverse_has [] y c = absurd (none_has y c)
  reverse_has (x ∷ xs) y c = subst (λ (ys : List X). Contains ys y) (sym (first_is_last x xs))
      (elim (has_cases x xs y c) [
        | inl same ↦ Contains-append_right (reverse xs) (x ∷ []) y (subst (Contains (x ∷ [])) same (has_first x []))
        | inr later ↦ Contains-append_left (reverse xs) (x ∷ []) y (reverse_has xs y later)
      ])

  pub has_reversed : (xs : List X) (y : X) → Contains (reverse xs) y → Contains xs y
  has_reversed [] y c = absurd (none_has y c)
  has_reversed (x ∷ xs) y c =
      elim (Contains-append_cases (reverse xs) (x ∷ []) y (subst (λ (ys : List X). Contains ys y) (first_is_last x xs) c)) [
        | inl later ↦ has_later x xs y (has_reversed xs y later)
        | inr here ↦ elim (has_cases x [] y here) [ inl same ↦ subst (Contains (x ∷ xs)) same (has_first x xs) | inr none ↦ absurd (none_has y none) ]
      ]

  -- ---- in order from the end

  all_push : (P : X → Type 0) (xs : List X) (x : X) → AllByRecursion P xs → P x → AllByRecursion P (xs ++ x ∷ [])
  all_push P [] x all here = (here, tt)
  all_push P (y ∷ ys) x all here = (all.0, all_push P ys x all.1 here)

  all_reverse : (P : X → Type 0) (xs : List X) → AllByRecursion P xs → AllByRecursion P (reverse xs)
  all_reverse P [] all = tt
  all_reverse P (x ∷ xs) all = subst (AllByRecursion P) (sym (first_is_last x xs)) (all_push P (reverse xs) x (all_reverse P xs all.1) all.0)

  sorted_push : (R : X → X → Ordering) (xs : List X) (x : X) → IsStrictlySortedBy R xs → AllByRecursion (λ y. R y x ≡ Less) xs
      → IsStrictlySortedBy R (xs ++ x ∷ [])
  unfolding IsStrictlySortedBy
  sorted_push R [] x sorted below = (tt, tt)
  sorted_push R (y ∷ ys) x sorted below = (all_push (λ q. R y q ≡ Less) ys x sorted.0 below.0, sorted_push R ys x sorted.1 below.1)

  pub sorted_reverse : (R : X → X → Ordering) (xs : List X) → IsStrictlySortedBy R xs → IsStrictlySortedBy (λ a b. R b a) (reverse xs)
  unfolding IsStrictlySortedBy
  sorted_reverse R [] sorted = tt
  sorted_reverse R (x ∷ xs) sorted = subst (IsStrictlySortedBy (λ a b. R b a)) (sym (first_is_last x xs))
      (sorted_push (λ a b. R b a) (reverse xs) x (sorted_reverse R xs sorted.1) (all_reverse (λ y. R x y ≡ Less) xs sorted.0))
