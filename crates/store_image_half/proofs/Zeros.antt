-- Bytes that are tested to be zero.
use Rattle.std.proofs.Common.{◌≡◌, ℕ, List, length, All, replicate, refl, sym, subst, ◌∙◌, arith}
use Rattle.std.proofs.lemmas.List.{ext_get_or, get_or-replicate, length-replicate}
use Rattle.std.proofs.lemmas.List.Elements.{All-replicate}
use Rattle.store_image_parts.specs.Spelling.{zeros}

pub zeros_found : (n : ℕ) (xs : List ℕ) → All (λ b. b ≡ 0) xs → length xs ≡ n → xs ≡ zeros n
unfolding zeros
zeros_found n xs are long = ext_get_or 0 xs (replicate n 0) (long ∙ sym (length-replicate n 0)) (λ k below. are k 0 below
    ∙ sym (get_or-replicate n k 0 0 (omega (arith, below, long))))

pub zeros_tested : (n : ℕ) (xs : List ℕ) → xs ≡ zeros n → All (λ b. b ≡ 0) xs
unfolding zeros
zeros_tested n xs is = subst (All (λ (b : ℕ). b ≡ 0)) (sym is) (All-replicate (λ (b : ℕ). b ≡ 0) n 0 refl)
