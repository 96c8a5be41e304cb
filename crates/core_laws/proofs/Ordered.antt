-- Two lists in strict order with the same places are one.
use Rattle.std.proofs.Common.{List, [], ap, arith, false, inl, inr, length, refl, subst, suc, sym, zero, ℕ, ◌<◌, ◌∙◌, ◌∷◌, ◌≡◌, ◌≢◌}
use Rattle.std.proofs.lemmas.Map.Made.{Contains-tail}
use Rattle.std.specs.Cmp.{tied_itself}
use Rattle.std.specs.List.{AllByRecursion, Contains}
use Rattle.std.specs.List.Sorted.{IsStrictlySortedBy}
use Rattle.std.specs.Ordering.{is_lt, ordering_reverse}
use Rattle.std.specs.Prelude.{slice_index_or}
use Rattle.std.specs.declared.cmp.Ordering.TheVariants.{Equal, Less}
use Rattle.record_values.specs.Orders.{rid_cmp, rid_cmp-IsAntisymmetric, rid_cmp_total}
use Rattle.record_values.specs.Values.{Place}
use Rattle.core_model.proofs.Laws.{rid_decided}
use Rattle.core_laws.proofs.Levels.{level_by}

here : (x : Place) (xs : List Place) → Contains (x ∷ xs) x
here x xs = (0, omega arith, refl)

later : (x q : Place) (xs : List Place) → Contains xs q → Contains (x ∷ xs) q
later x q xs c = (suc c.0, omega (arith, c.1), c.2)

nowhere : (q : Place) → Contains [] q → ⊥
nowhere q c = absurd (omega (arith, c.1))

holds_of : (P : Place → Type 0) (xs : List Place) (k : ℕ) (q : Place) → AllByRecursion P xs → k < length xs → slice_index_or xs k q ≡ q → P q
holds_of P [] k q all l e = absurd (omega (arith, l))
holds_of P (x ∷ xs) zero q all l e = subst P e all.0
holds_of P (x ∷ xs) (suc k) q all l e = holds_of P xs k q all.1 (omega (arith, l)) e

parted : (x : Place) (xs : List Place) → IsStrictlySortedBy rid_cmp (x ∷ xs) → AllByRecursion (λ y. rid_cmp x y ≡ Less) xs × IsStrictlySortedBy rid_cmp xs
unfolding IsStrictlySortedBy
parted x xs sorted = sorted

-- what lies behind the first comes after it
behind : (x q : Place) (xs : List Place) → IsStrictlySortedBy rid_cmp (x ∷ xs) → Contains xs q → rid_cmp x q ≡ Less
behind x q xs sorted c = holds_of (λ y. rid_cmp x y ≡ Less) xs c.0 q (parted x xs sorted).0 c.1 c.2

other : (x q : Place) → rid_cmp x q ≡ Less → x ≢ q
other x q less same = apart (sym (tied_itself rid_cmp_total x) ∙ subst (λ y. rid_cmp x y ≡ Less) (sym same) less)
  where
    apart : Equal ≡ Less → ⊥
    apart e = absurd cc

lowest : (x q : Place) (xs : List Place) → IsStrictlySortedBy rid_cmp (x ∷ xs) → Contains (x ∷ xs) q → is_lt (rid_cmp q x) ≡ false
lowest x q xs sorted c = elim (rid_decided x q) [
  | inl same ↦ subst (λ y. is_lt (rid_cmp y x) ≡ false) same (ap is_lt (tied_itself rid_cmp_total x))
  | inr apart ↦ ap is_lt (rid_cmp_total.antisymm q x ∙ ap ordering_reverse (behind x q xs sorted (Contains-tail x xs q apart c)))
]

-- those behind equal firsts are the same
tails : (x y : Place) (xs ys : List Place) → x ≡ y → IsStrictlySortedBy rid_cmp (x ∷ xs) → ((q : Place) → Contains (x ∷ xs) q → Contains (y ∷ ys) q)
    → (q : Place) → Contains xs q → Contains ys q
tails x y xs ys same sorted into q c = Contains-tail y ys q (λ e. other x q (behind x q xs sorted c) (same ∙ e)) (into q (later x q xs c))

pub sorted_one : (xs ys : List Place) → IsStrictlySortedBy rid_cmp xs → IsStrictlySortedBy rid_cmp ys → ((q : Place) → Contains xs q → Contains ys q)
    → ((q : Place) → Contains ys q → Contains xs q) → xs ≡ ys
sorted_one [] [] f g into back = refl
sorted_one [] (y ∷ ys) f g into back = absurd (nowhere y (back y (here y ys)))
sorted_one (x ∷ xs) [] f g into back = absurd (nowhere x (into x (here x xs)))
sorted_one (x ∷ xs) (y ∷ ys) f g into back =
    let same : x ≡ y = level_by rid_cmp_total rid_cmp-IsAntisymmetric x y (rid_cmp x y) refl (lowest y x ys g (into x (here x xs)))
    (lowest x y xs f (back y (here y ys))) in
    let rest : xs ≡ ys = sorted_one xs ys (parted x xs f).1 (parted y ys g).1 (tails x y xs ys same f into) (tails y x ys xs (sym same) g back) in
    ap (λ z. z ∷ xs) same ∙ ap (λ zs. y ∷ zs) rest
