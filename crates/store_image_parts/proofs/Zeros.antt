-- Bytes that are tested to be zero.
use Rattle.std.proofs.Common.{◌≡◌, ℕ, zero, suc, ◌+◌, ◌<◌, ◌≤◌, Bool, true, false, ◌&&◌, eqb, List, [], ◌∷◌, length, get_or, drop, refl, sym, ap, ◌∙◌, arith}
use Rattle.std.specs.Prelude.{bit_or}
use Rattle.std.specs.Int.Bits.{or_zero_l}
use Rattle.std.proofs.lemmas.Bool.{eqb-true, ne_eqb}
use Rattle.std.proofs.lemmas.Nat.{le_or_l}
use Rattle.std.proofs.Math.Dec.{eqb-suc-zero}
use Rattle.std.proofs.Math.ListN.{drop_of_length-le}
use Rattle.std.proofs.Math.Seq.{drop-cons}
use Rattle.store_image_parts.specs.Spelling.{zeros}
use Rattle.store_image_parts.specs.Reading.{are_zeros}

pub zeros_tested : (n : ℕ) → are_zeros (zeros n) ≡ true
unfolding are_zeros zeros
zeros_tested zero = refl
zeros_tested (suc n) = zeros_tested n

both_true : (a b : Bool) → (a && b) ≡ true → (a ≡ true) × (b ≡ true)
both_true true b are = (refl, are)
both_true false b are = absurd cc

pub zeros_found : (bytes : List ℕ) → are_zeros bytes ≡ true → bytes ≡ zeros (length bytes)
unfolding are_zeros zeros
zeros_found [] tested = refl
zeros_found (b ∷ bytes) tested =
    let both = both_true (eqb b 0) (are_zeros bytes) tested in
    ap (λ (k : ℕ). k ∷ bytes) (eqb-true b 0 both.0) ∙ ap (λ (t : List ℕ). 0 ∷ t) (zeros_found bytes both.1)

-- ---- the bytes are put together bit by bit

or_tested : (a b : ℕ) → eqb (bit_or a b) 0 ≡ (eqb a 0 && eqb b 0)
or_tested zero b = ap (λ n. eqb n 0) (or_zero_l b)
or_tested (suc a) b = ne_eqb (bit_or (suc a) b) 0 (λ none. omega (arith, none, le_or_l (suc a) b)) ∙ sym (ap (λ (t : Bool). t && eqb b 0) (eqb-suc-zero a))

and_assoc : (a b c : Bool) → (a && (b && c)) ≡ ((a && b) && c)
and_assoc true b c = refl
and_assoc false b c = refl

and_true : (t : Bool) → (t && true) ≡ t
and_true true = refl
and_true false = refl

-- the bytes up to the i-th, put together, and those behind
pub more_tested : (bytes : List ℕ) (i a : ℕ) → i < length bytes → are_zeros bytes ≡ (eqb a 0 && are_zeros (drop i bytes))
    → are_zeros bytes ≡ (eqb (bit_or a (get_or bytes i 0)) 0 && are_zeros (drop (i + 1) bytes))
unfolding are_zeros
more_tested bytes i a below was =
    let b : ℕ = get_or bytes i 0 in
    let next : drop i bytes ≡ b ∷ drop (i + 1) bytes = drop-cons bytes i 0 below
    ∙ ap (λ (k : ℕ). b ∷ drop k bytes) (let e : suc i ≡ i + 1 = omega arith in e) in
    was
    ∙ ap (λ (t : List ℕ). eqb a 0 && are_zeros t) next
    ∙ and_assoc (eqb a 0) (eqb b 0) (are_zeros (drop (i + 1) bytes))
    ∙ ap (λ (t : Bool). t && are_zeros (drop (i + 1) bytes)) (sym (or_tested a b))

pub all_tested : (bytes : List ℕ) (i a : ℕ) → length bytes ≤ i → are_zeros bytes ≡ (eqb a 0 && are_zeros (drop i bytes)) → eqb a 0 ≡ are_zeros bytes
unfolding are_zeros
all_tested bytes i a past was = sym (was ∙ ap (λ (t : List ℕ). eqb a 0 && are_zeros t) (drop_of_length-le bytes past) ∙ and_true (eqb a 0))
