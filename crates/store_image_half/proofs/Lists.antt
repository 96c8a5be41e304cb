-- Lists by their elements.
use Rattle.std.proofs.Common.{◌≡◌, ◌⊎◌, inl, inr, ℕ, zero, suc, ◌<◌, List, [], ◌∷◌, ◌++◌, length, Option, Some, None, refl, sym, arith}
use Rattle.std.specs.Prelude.{slice_get}
use Rattle.std.proofs.lemmas.Option.{none-some, same_Some}

pub option_cases : {A : Type 0} (o : Option A) → (o ≡ None) ⊎ ((x : A) × (o ≡ Some x))
option_cases None = inl refl
option_cases (Some x) = inr (x, refl)

pub same_by_slice_get : {A : Type 0} (xs ys : List A) → ((i : ℕ) → slice_get xs i ≡ slice_get ys i) → xs ≡ ys
same_by_slice_get [] [] same = refl
same_by_slice_get [] (y ∷ ys) same = absurd (none-some y (same 0))
same_by_slice_get (x ∷ xs) [] same = absurd (none-some x (sym (same 0)))
same_by_slice_get (x ∷ xs) (y ∷ ys) same =
    let head : x ≡ y = same_Some x y (same 0) in
    let tail : xs ≡ ys = same_by_slice_get xs ys (λ i. same (suc i)) in
    λ i. head i ∷ tail i

-- an element of a list with one more behind it
pub slice_get_push : {A : Type 0} (xs : List A) (y e : A) (i : ℕ) → slice_get (xs ++ y ∷ []) i ≡ Some e → (slice_get xs i ≡ Some e)
    ⊎ ((i ≡ length xs) × (y ≡ e))
slice_get_push [] y e zero is = inr (refl, same_Some y e is)
slice_get_push [] y e (suc i) is = absurd (none-some e is)
slice_get_push (x ∷ xs) y e zero is = inl is
slice_get_push (x ∷ xs) y e (suc i) is = elim (slice_get_push xs y e i is) [
  | inl there ↦ inl there
  | inr last ↦ inr (omega (arith, last.0), last.1)
]

pub slice_get_last : {A : Type 0} (xs : List A) (y : A) → slice_get (xs ++ y ∷ []) (length xs) ≡ Some y
slice_get_last [] y = refl
slice_get_last (x ∷ xs) y = slice_get_last xs y

-- lists of one length whose elements are the same
pub same_elements : {A : Type 0} (xs ys : List A) → length xs ≡ length ys → ((i : ℕ) (x y : A) → slice_get xs i ≡ Some x → slice_get ys i ≡ Some y → x ≡ y)
    → xs ≡ ys
same_elements [] [] long same = refl
same_elements [] (y ∷ ys) long same = absurd (omega (arith, long))
same_elements (x ∷ xs) [] long same = absurd (omega (arith, long))
same_elements (x ∷ xs) (y ∷ ys) long same =
    let head : x ≡ y = same 0 x y refl refl in
    let tail : xs ≡ ys = same_elements xs ys (omega (arith, long)) (λ i. same (suc i)) in
    λ i. head i ∷ tail i

pub not_past : {A : Type 0} (xs : List A) (i : ℕ) → i < length xs → ¬ (slice_get xs i ≡ None)
not_past [] i below none = absurd (omega (arith, below))
not_past (x ∷ xs) zero below none = none-some x (sym none)
not_past (x ∷ xs) (suc i) below none = not_past xs i (omega (arith, below)) none
