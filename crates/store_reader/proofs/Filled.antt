-- A map that was given a value is not empty.
use Rattle.std.proofs.Common.{◌≡◌, ◌↔◌, true, false, cond, List, [], ◌∷◌, length, Some, refl, sym, ap, ◌∙◌, arith}
use Rattle.std.proofs.lemmas.Option.{none-some}
use Rattle.std.specs.declared.cmp.Ordering.{Ordering}
use Rattle.std.specs.FinMap as map
use Rattle.record_values.specs.Maps.{IsExact, get-set_at, same_key, set_at}
use Rattle.model.specs.Extended.{extended}

pub filled : {K X : Type 0} {R : K → K → Ordering} (o : IsExact R) (m n : map.FinMap R X) (k : K) (v : X) → n ≡ set_at m k (Some v) → ¬ (n ≡ map.empty)
filled {R = R} o m n k v is none =
    let there : map.get n k ≡ Some v = ap (λ x. map.get x k) is ∙ get-set_at o m k (Some v) k ∙ ap (λ b. cond b (Some v) (map.get m k)) (same_key o k) in
    none-some v (sym (map.get-empty R k) ∙ sym (ap (λ x. map.get x k) none) ∙ there)

still_filled : {K X : Type 0} {R : K → K → Ordering} (o : IsExact R) (m : map.FinMap R X) (es : List (K × X)) → ¬ (m ≡ map.empty)
    → ¬ (extended m es ≡ map.empty)
still_filled o m [] some = some
still_filled o m (e ∷ es) some = still_filled o (map.insert m e.0 e.1) es (filled o m (map.insert m e.0 e.1) e.0 e.1 refl)

-- nor is one that was given some entries
pub filled_by : {K X : Type 0} {R : K → K → Ordering} (o : IsExact R) (m n : map.FinMap R X) (es : List (K × X)) → n ≡ extended m es → ¬ (length es ≡ 0)
    → ¬ (n ≡ map.empty)
filled_by o m n [] is some none = some refl
filled_by o m n (e ∷ es) is some none = still_filled o (map.insert m e.0 e.1) es (filled o m (map.insert m e.0 e.1) e.0 e.1 refl) (sym is ∙ none)

-- one that was given none is as it was
pub as_before : {K X : Type 0} {R : K → K → Ordering} (m n : map.FinMap R X) (es : List (K × X)) → n ≡ extended m es → length es ≡ 0 → n ≡ m
as_before m n [] is none = is
as_before m n (e ∷ es) is none = absurd (omega (arith, none))

-- so a mark that something was set is right
pub marked : {B : Type 0} → ¬ B → (true ≡ false) ↔ B
marked false_is = ((λ e. absurd (impossible e)), (λ b. absurd (false_is b)))
  where
    impossible : true ≡ false → ⊥
    impossible e = absurd cc
