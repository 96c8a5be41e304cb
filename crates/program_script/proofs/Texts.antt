-- A word and the bytes that it gives.
use Rattle.std.proofs.Common.{◌≡◌, ℕ, zero, suc, ◌+◌, ◌*◌, ◌/◌, ◌%◌, ◌<◌, ◌≤◌, ◌&&◌, ◌||◌, Bool, true, false, not, cond, ltb, leb, eqb, List, [], ◌∷◌, length}
use Rattle.std.proofs.Common.{get_or, Option, Some, None, Result, Ok, Err, refl, ap, subst, ◌∙◌, arith, inl, inr}
use Rattle.std.specs.Char.{is_ascii_graphic, is_ascii_uppercase, IsAsciiGraphic}
use Rattle.std.specs.List.{All, list_all, list_any}
use Rattle.std.specs.Result.{result_ok}
use Rattle.std.proofs.lemmas.Bool.{cases_lt, and_parts, or_cases, or_parts, or_from, ltb-true, eqb-true, agree_below_at, not-true, both_ways, lt-leb}
use Rattle.std.proofs.lemmas.Bool.Decides.{nat_tests}
use Rattle.std.proofs.lemmas.List.Elements.{All-weaker}
use Rattle.std.proofs.lemmas.List.Sums.{AllPass-from_list_all, list_all-from_AllPass}
use Rattle.hex.specs.declared.error.FromHexError.{FromHexError}
use Rattle.hex.specs.declared.error.FromHexError.TheVariants.{OddLength}
use Rattle.hex.specs.Hex.{IsBytes, lower_digits, encode_with, encode_lower, hex_digit_value, ◌>>=◌, digit_or_error, value_at, pair_value, decode_pairs}
use Rattle.hex.specs.Hex.{decode_of}
use Rattle.hex.proofs.HexLemmas.{decode_of-encode_lower}
use Rattle.program_script.specs.Grammar.{IsByteText, IsName}
use Rattle.program_script.specs.Reading.{hex_at, is_name, name_at, text_at}
use Rattle.program_script.proofs.Steps.{some_is, passed, passed_not, by_byte}

-- ---- digits

-- a digit that is not in upper case stands at its value's place of the table
abbrev is_at_its_place : ℕ → Option ℕ → Bool
is_at_its_place c None = true
is_at_its_place c (Some v) = ltb v 16 && eqb (get_or lower_digits v 0) c

abbrev digit_test : ℕ → Bool
digit_test c = is_ascii_uppercase c || is_at_its_place c (hex_digit_value c)

above_digits : (c : ℕ) → 128 ≤ c → hex_digit_value c ≡ None
above_digits c h =
    let a : leb c 70 ≡ false = lt-leb _ _ (omega arith) in
    let b : leb c 102 ≡ false = lt-leb _ _ (omega arith) in
    let d : leb c 57 ≡ false = lt-leb _ _ (omega arith) in
    grind (arith, nat_tests)

at_its_place : (c v : ℕ) (o : Option ℕ) → o ≡ Some v → is_at_its_place c o ≡ true → (v < 16) × (get_or lower_digits v 0 ≡ c)
at_its_place c v None e h = absurd cc
at_its_place c v (Some w) e h =
    let both = and_parts (ltb w 16) (eqb (get_or lower_digits w 0) c) h in
    subst (λ (x : ℕ). (x < 16) × (get_or lower_digits x 0 ≡ c)) (some_is w v e)
    (ltb-true _ _ both.0, eqb-true _ _ both.1)

abbrev always : ℕ → Bool
always n = true

digit_value_takes : (c v : ℕ) → is_ascii_uppercase c ≡ false → hex_digit_value c ≡ Some v → (v < 16) × (get_or lower_digits v 0 ≡ c)
digit_value_takes c v low e =
    elim (cases_lt c 128) [
      | inr far ↦ let bad = above_digits c far in absurd cc
      | inl near ↦
          let tested : digit_test c ≡ true = agree_below_at digit_test always 128 c refl near in
          elim (or_cases (is_ascii_uppercase c) (is_at_its_place c (hex_digit_value c)) tested) [
            | inl up ↦ absurd (both_ways _ low up)
            | inr at ↦ at_its_place c v (hex_digit_value c) e at
          ]
    ]

digit_step : (c i v : ℕ) (o : Option ℕ) → digit_or_error c i o ≡ Ok v → o ≡ Some v
digit_step c i v (Some w) e = cc
digit_step c i v None e = absurd cc

digit_takes : (c i v : ℕ) → is_ascii_uppercase c ≡ false → value_at c i ≡ Ok v → (v < 16) × (get_or lower_digits v 0 ≡ c)
digit_takes c i v low e = digit_value_takes c v low (digit_step c i v (hex_digit_value c) e)

abbrev lower_test : ℕ → Bool
lower_test d = not (is_ascii_uppercase (get_or lower_digits d 0))

digit_is_lower : (d : ℕ) → d < 16 → is_ascii_uppercase (get_or lower_digits d 0) ≡ false
digit_is_lower d lt = not-true _ (agree_below_at lower_test always 16 d refl lt)

-- ---- bytes in hexadecimal digits

bind_ok : {A B : Type 0} (r : Result A FromHexError) (f : A → Result B FromHexError) (y : B) → (r >>= f) ≡ Ok y → (x : A) × (r ≡ Ok x) × (f x ≡ Ok y)
bind_ok (Ok x) f y e = (x, refl, e)
bind_ok (Err x) f y e = absurd cc

ok_is : {A : Type 0} (x y : A) (r : Result A FromHexError) → r ≡ Ok x → r ≡ Ok y → x ≡ y
ok_is x y r e f = cc

abbrev AreTaken : List ℕ → List ℕ → Type 0
AreTaken digits bytes = (digits ≡ encode_lower bytes) × IsBytes bytes

byte_fits : (h l : ℕ) (bytes : List ℕ) → h < 16 → l < 16 → IsBytes bytes → IsBytes ((h * 16 + l) ∷ bytes)
byte_fits h l bytes hl ll fits zero = omega arith
byte_fits h l bytes hl ll fits (suc i) = fits i

three_are : (a b : ℕ) (c : List ℕ) (x y : ℕ) (z : List ℕ) → x ≡ a → y ≡ b → c ≡ z → a ∷ b ∷ c ≡ x ∷ y ∷ z
three_are a b c x y z p q r = cc

pairs_take : (i : ℕ) (digits bytes : List ℕ) → list_any is_ascii_uppercase digits ≡ false → decode_pairs i digits ≡ Ok bytes → AreTaken digits bytes
unfolding decode_pairs encode_with
pairs_take i [] bytes lower e =
    let is : [] ≡ bytes = ok_is [] bytes (decode_pairs i []) refl e in
    subst (AreTaken []) is (refl, λ k. omega arith)
pairs_take i (digit ∷ []) bytes lower e = absurd cc
pairs_take i (high ∷ low ∷ rest) bytes lower e =
    let pair = bind_ok (pair_value high low i) (λ byte. decode_pairs (i + 2) rest >>= λ more. Ok (byte ∷ more)) bytes e in
    let tail = bind_ok (decode_pairs (i + 2) rest) (λ more. Ok (pair.0 ∷ more)) bytes pair.2 in
    let h = bind_ok (value_at high i) (λ h. value_at low (i + 1) >>= λ l. Ok (h * 16 + l)) pair.0 pair.1 in
    let l = bind_ok (value_at low (i + 1)) (λ l. Ok (h.0 * 16 + l)) pair.0 h.2 in
    let cases = or_parts (is_ascii_uppercase high) (is_ascii_uppercase low || list_any is_ascii_uppercase rest) lower in
    let further = or_parts (is_ascii_uppercase low) (list_any is_ascii_uppercase rest) cases.1 in
    let first = digit_takes high i h.0 cases.0 h.1 in
    let second = digit_takes low (i + 1) l.0 further.0 l.1 in
    let taken = pairs_take (i + 2) rest tail.0 further.1 tail.1 in
    let byte : h.0 * 16 + l.0 ≡ pair.0 = ok_is (h.0 * 16 + l.0) pair.0 (Ok (h.0 * 16 + l.0)) refl l.2 in
    let whole : pair.0 ∷ tail.0 ≡ bytes = ok_is (pair.0 ∷ tail.0) bytes (Ok (pair.0 ∷ tail.0)) refl tail.2 in
    let high_half : (h.0 * 16 + l.0) / 16 ≡ h.0 = omega (arith, second.0) in
    let low_half : (h.0 * 16 + l.0) % 16 ≡ l.0 = omega (arith, second.0) in
    let three = three_are high low rest (get_or lower_digits h.0 0) (get_or lower_digits l.0 0) (encode_lower tail.0) first.1 second.1 taken.0 in
    let halves : high ∷ low ∷ rest ≡ encode_lower ((h.0 * 16 + l.0) ∷ tail.0) = rw (high_half, low_half) three in
    subst (AreTaken (high ∷ low ∷ rest)) (ap (λ (b : ℕ). b ∷ tail.0) byte ∙ whole)
    (halves, byte_fits h.0 l.0 tail.0 first.0 second.0 taken.1)

decoded : (r : Result (List ℕ) FromHexError) (bytes : List ℕ) → result_ok r ≡ Some bytes → r ≡ Ok bytes
decoded (Ok read) bytes e = ap Ok (some_is read bytes e)
decoded (Err error) bytes e = absurd cc

even : (odd : Bool) (r : Result (List ℕ) FromHexError) (bytes : List ℕ) → cond odd (Err OddLength) r ≡ Ok bytes → r ≡ Ok bytes
even true r bytes e = absurd cc
even false r bytes e = e

hex_takes : (digits bytes : List ℕ) → hex_at digits ≡ Some bytes → AreTaken digits bytes
unfolding hex_at
hex_takes digits bytes e =
    let p = passed_not (list_any is_ascii_uppercase digits) (result_ok (decode_of digits)) bytes e in
    pairs_take 0 digits bytes p.0 (even (eqb (length digits % 2) 1) (decode_pairs 0 digits) bytes (decoded (decode_of digits) bytes p.1))

encode_is_lower : (bytes : List ℕ) → IsBytes bytes → list_any is_ascii_uppercase (encode_lower bytes) ≡ false
unfolding encode_with
encode_is_lower [] fits = refl
encode_is_lower (b ∷ rest) fits =
    let first : b < 256 = fits 0 in
    let high = digit_is_lower (b / 16) (omega arith) in
    let low = digit_is_lower (b % 16) (omega arith) in
    or_from _ _ high (or_from _ _ low (encode_is_lower rest (λ i. fits (suc i))))

hex_again : (bytes : List ℕ) → IsBytes bytes → hex_at (encode_lower bytes) ≡ Some bytes
unfolding hex_at
hex_again bytes fits = rw (encode_is_lower bytes fits, decode_of-encode_lower bytes fits) refl

-- ---- bytes of either form

graphic_from : (c : ℕ) → is_ascii_graphic c ≡ true → IsAsciiGraphic c
graphic_from c h = grind (arith, nat_tests)

graphic_to : (c : ℕ) → IsAsciiGraphic c → is_ascii_graphic c ≡ true
graphic_to c h = grind (arith, nat_tests)

pub text_takes : (word bytes : List ℕ) → text_at word ≡ Some bytes → IsByteText word bytes
unfolding text_at
text_takes [] bytes e = absurd cc
text_takes (first ∷ rest) bytes e =
    by_byte first 61
    (λ is h.
    let p = passed (list_all is_ascii_graphic rest) (Some rest) bytes h in
    let same = some_is rest bytes p.1 in
    let each : All IsAsciiGraphic rest = All-weaker (λ x. is_ascii_graphic x ≡ true) IsAsciiGraphic graphic_from rest
    (AllPass-from_list_all is_ascii_graphic rest p.0) in
    inl (ap (λ (b : ℕ). b ∷ rest) is ∙ ap (λ (t : List ℕ). 61 ∷ t) same, subst (All IsAsciiGraphic) same each))
    (by_byte first 58
    (λ is h.
    let t = hex_takes rest bytes h in
    inr (ap (λ (b : ℕ). b ∷ rest) is ∙ ap (λ (t : List ℕ). 58 ∷ t) t.0, t.1))
    (λ h. absurd cc))
    e

pub text_again : (word bytes : List ℕ) → IsByteText word bytes → text_at word ≡ Some bytes
unfolding text_at
text_again word bytes (inl h) =
    let each : list_all is_ascii_graphic bytes ≡ true =
    list_all-from_AllPass is_ascii_graphic bytes (All-weaker IsAsciiGraphic (λ x. is_ascii_graphic x ≡ true) graphic_to bytes h.1) in
    ap text_at h.0 ∙ rw each refl
text_again word bytes (inr h) = ap text_at h.0 ∙ hex_again bytes h.1

-- ---- names of files

name_is : (word : List ℕ) → is_name word ≡ true → IsName word
name_is [] h = absurd cc
name_is (first ∷ rest) h = (
  omega arith,
  All-weaker (λ x. is_ascii_graphic x ≡ true) IsAsciiGraphic graphic_from (first ∷ rest) (AllPass-from_list_all is_ascii_graphic (first ∷ rest) h),
)

is_of_name : (word : List ℕ) → IsName word → is_name word ≡ true
is_of_name [] h = absurd (omega (arith, h.0))
is_of_name (first ∷ rest) h =
    list_all-from_AllPass is_ascii_graphic (first ∷ rest)
    (All-weaker IsAsciiGraphic (λ x. is_ascii_graphic x ≡ true) graphic_to (first ∷ rest) h.1)

pub name_takes : (word name : List ℕ) → name_at word ≡ Some name → (word ≡ name) × IsName name
unfolding name_at
name_takes word name e =
    let p = passed (is_name word) (Some word) name e in
    let same = some_is word name p.1 in
    (same, subst IsName same (name_is word p.0))

pub name_again : (name : List ℕ) → IsName name → name_at name ≡ Some name
unfolding name_at
name_again name h = rw (is_of_name name h) refl
