-- A word and the number that it is in decimal.
use Rattle.std.proofs.Common.{◌≡◌, ℕ, ◌^◌, ◌<◌, ◌≤◌, ◌&&◌, Bool, true, false, ltb, eqb, leb, List, [], ◌∷◌, length, get_or, Option, Some, None, Result, Ok, Err}
use Rattle.std.proofs.Common.{refl, sym, ap, subst, ◌∙◌, arith, inl, inr}
use Rattle.std.specs.Prelude.{◌≢◌}
use Rattle.std.specs.Result.{result_ok}
use Rattle.std.specs.Str.{bytes_eq, IsUtf8}
use Rattle.std.specs.Str.Parse.{AllDigits, digits_value, ParsesUnsigned}
use Rattle.std.specs.Fmt.{decimal}
use Rattle.std.proofs.lemmas.Bool.{ltb-true, lt-ltb, cases_Bool, and_parts, and_from, le-leb, leb-true, true≢false, cases_lt, ne_eqb}
use Rattle.std.proofs.lemmas.Slice.Eq.{bytes_eq-Decides}
use Rattle.std.proofs.lemmas.Str.{IsUtf8-from_ascii}
use Rattle.std.proofs.lemmas.Str.Parse.{IsNumeralModel, numerals_by_value, tells_digits, parse_plain, digit_from_value, digit_at}
use Rattle.std.proofs.lemmas.Fmt.{parse-decimal, decimal_digit, decimal_nonempty, first_decimal, IsAscii-decimal, digits_decimal, digits_value-decimal}
use Rattle.std.proofs.lemmas.Fmt.{decimal-digits_value}
use Rattle.std.specs.List.{All}
use Rattle.std.proofs.lemmas.List.Elements.{All-from_get_or}
use Rattle.program_script.specs.Reading.{begins_as_number, number_at}

own : IsNumeralModel (AllDigits 10) (digits_value 10)
own = numerals_by_value (AllDigits 10) tells_digits

abbrev test : List ℕ → Bool
test word = ltb (digits_value 10 word) (2 ^ 32) && bytes_eq word (decimal (digits_value 10 word))

-- ---- what is written in decimal

-- what is read is written so
pub number_takes : (word : List ℕ) (n : ℕ) → number_at word ≡ Some n → (word ≡ decimal n) × (n < 2 ^ 32)
unfolding number_at
number_takes word n e =
    elim (cases_Bool (test word)) [
      | inr h ↦ let bad = rw h at e in absurd cc
      | inl h ↦
          let both = and_parts _ _ h in
          let read = rw h at e in
          let is : digits_value 10 word ≡ n = cc in
          let low = ltb-true _ _ both.0 in
          let same = (bytes_eq-Decides word (decimal (digits_value 10 word))).0 both.1 in
          subst (λ (k : ℕ). (word ≡ decimal k) × (k < 2 ^ 32)) is (same, low)
    ]

-- what is written is read again
pub number_again : (n : ℕ) → n < 2 ^ 32 → number_at (decimal n) ≡ Some n
unfolding number_at
number_again n lt =
    let value : digits_value 10 (decimal n) ≡ n = digits_value-decimal own n (omega arith) in
    let low : ltb n (2 ^ 32) ≡ true = lt-ltb _ _ lt in
    let same : bytes_eq (decimal n) (decimal n) ≡ true = (bytes_eq-Decides (decimal n) (decimal n)).1 refl in
    rw (value, low, same) refl

no_number : (word : List ℕ) → ((n : ℕ) → n < 2 ^ 32 → word ≡ decimal n → ⊥) → None ≡ number_at word
no_number word none = by_result (number_at word) refl
  where
    by_result : (o : Option ℕ) → number_at word ≡ o → None ≡ number_at word
    by_result None e = sym e
    by_result (Some n) e = let t = number_takes word n e in absurd (none n t.1 t.0)

-- ---- the reader

begins : (bytes : List ℕ) (n : ℕ) → n < 2 ^ 32 → bytes ≡ decimal n → begins_as_number bytes ≡ true
begins [] n lt e =
    let full : 0 < length {A = ℕ} [] = subst (λ (b : List ℕ). 0 < length b) (sym e) (decimal_nonempty n (omega arith)) in
    absurd (omega arith)
begins (digit ∷ []) n lt e =
    let digits : AllDigits 10 (digit ∷ []) = subst (AllDigits 10) (sym e) (digits_decimal own n (omega arith)) in
    let range = digit_from_value digit digits.0 in
    and_from _ _ (le-leb _ _ range.0) (le-leb _ _ range.1)
begins (first ∷ second ∷ rest) n lt e =
    let digits : AllDigits 10 (first ∷ second ∷ rest) = subst (AllDigits 10) (sym e) (digits_decimal own n (omega arith)) in
    let range = digit_from_value first digits.0 in
    elim (cases_lt 0 n) [
      | inl positive ↦
          let above : 48 < first = subst (λ (b : List ℕ). 48 < get_or b 0 0) (sym e) (first_decimal n positive (omega arith)) in
          and_from _ _ (le-leb _ _ (omega arith)) (le-leb _ _ range.1)
      | inr none ↦
          let is : n ≡ 0 = omega arith in
          let bad : first ∷ second ∷ rest ≡ 48 ∷ [] = e ∙ ap decimal is ∙ decimal_digit 0 (omega arith) in
          absurd cc
    ]

pub unlike_a_number : (word : List ℕ) → begins_as_number word ≡ false → None ≡ number_at word
unlike_a_number word h = no_number word (λ n lt e. true≢false (sym (begins word n lt e) ∙ h))

pub no_text : (word : List ℕ) → (IsUtf8 word → ⊥) → None ≡ number_at word
no_text word h = no_number word (λ n lt e. h (rw e (IsUtf8-from_ascii (decimal n) (IsAscii-decimal n (omega arith)))))

no_plus : (word : List ℕ) → begins_as_number word ≡ true → get_or word 0 0 ≢ 43
no_plus [] h e = absurd cc
no_plus (digit ∷ []) h e =
    let f : digit ≡ 43 = e in
    let low : 48 ≤ digit = leb-true 48 digit (and_parts (leb 48 digit) (leb digit 57) h).0 in
    omega arith
no_plus (first ∷ second ∷ rest) h e =
    let f : first ≡ 43 = e in
    let low : 49 ≤ first = leb-true 49 first (and_parts (leb 49 first) (leb first 57) h).0 in
    omega arith

no_zero : (word : List ℕ) → begins_as_number word ≡ true → get_or word 0 0 ≡ 48 → length word ≡ 1
no_zero [] h e = absurd cc
no_zero (digit ∷ []) h e = refl
no_zero (first ∷ second ∷ rest) h e =
    let f : first ≡ 48 = e in
    let low : 49 ≤ first = leb-true 49 first (and_parts (leb 49 first) (leb first 57) h).0 in
    absurd (omega arith)

pub parsed : {E : Type 0} (word : List ℕ) (r : Result ℕ E) → begins_as_number word ≡ true → ParsesUnsigned 32 10 word r → result_ok r ≡ number_at word
parsed {E} word (Ok n) h p =
    let read = parse_plain own {E = E} 32 word (Ok n) p (no_plus word h) in
    let same : decimal (digits_value 10 word) ≡ word = decimal-digits_value own word read.0.0 read.0.1 (no_zero word h) (omega (arith, read.0.2)) in
    let again = number_again (digits_value 10 word) read.0.2 in
    ap Some read.1 ∙ sym again ∙ ap number_at same
parsed {E} word (Err e) h p = no_number word (λ n lt is. let bad = parse-decimal {E = E} 32 n word (Err e) lt (omega arith) is p in absurd cc)

-- ---- what stands in no number

no_digit : (c b : ℕ) → b < 48 → 48 ≤ c → eqb c b ≡ false
no_digit c b low high = ne_eqb c b (λ e. omega arith)

-- a byte below the digits
pub no_such_byte : (b n : ℕ) → b < 48 → n < 2 ^ 32 → All (λ c. eqb c b ≡ false) (decimal n)
no_such_byte b n low lt =
    All-from_get_or (λ c. eqb c b ≡ false) (decimal n) 0
    (λ i there. no_digit (get_or (decimal n) i 0) b low (digit_at (decimal n) i (digits_decimal own n (omega arith)) there).0)
