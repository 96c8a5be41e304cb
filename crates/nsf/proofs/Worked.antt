-- What is left of a list that was lent whole.
use Rattle.std.proofs.Common.{◌≡◌, ◌∙◌, ◌<◌, ◌++◌, ℕ, List, length, get_or, take, drop, subst, sym, ap, arith}
use Rattle.std.proofs.lemmas.List.{take-append-le, take_all}

pub lent_whole : {X : Type 0} (n : ℕ) (xs ys : List X) → length ys ≡ length xs → n ≡ length xs → take n (ys ++ drop (length ys) xs) ≡ ys
lent_whole n xs ys same len =
    take-append-le n ys (drop (length ys) xs) (omega (arith, same, len)) ∙ take_all n ys (omega (arith, same, len))

-- so it is of each, as it was and as it is then
pub each_lent : {X : Type 0} (P : X → X → Type 0) (n : ℕ) (xs old ys : List X) → old ≡ xs → length ys ≡ length old → n ≡ length xs
    → ((k : ℕ) (d : X) → k < length old → P (get_or old k d) (get_or ys k d))
    → (k : ℕ) (d : X) → k < n → P (get_or xs k d) (get_or (take n (ys ++ drop (length ys) xs)) k d)
each_lent {X} P n xs old ys is same len each k d within =
    subst (λ (l : List X). P (get_or xs k d) (get_or l k d)) (sym (lent_whole n xs ys (same ∙ ap length is) len))
    (subst (λ (l : List X). P (get_or l k d) (get_or ys k d)) is (each k d (omega (arith, within, len, ap length is))))
