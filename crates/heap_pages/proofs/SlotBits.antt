-- Sets of slots, and the bits that tell of them.
use Rattle.std.proofs.Common.{◌≡◌, ◌≢◌, ℕ, zero, suc, ◌+◌, ◌-◌, ◌<◌, ◌≤◌, ◌^◌, ◌==◌, min, Bool, true, false, cond, ◌∷◌, length, set, replicate, Some}
use Rattle.std.proofs.Common.{slice_get, slice_set, refl, sym, ap, ◌∙◌, arith, ⊎_elim, eq-eqb, true≢false, bit_and, w64}
use Rattle.std.proofs.lemmas.Bool.{eqb-true, cases_lt}
use Rattle.std.proofs.lemmas.Option.{slice_get_within, same_Some}
use Rattle.std.proofs.lemmas.Nat.Bits.{bit_at-zero, bit_at-lt, bit_at_and, bit_at_not, bit_at_ones, bit_at_above, bit_at-trailing_zeros, same_from_bits_below}
use Rattle.std.proofs.lemmas.Nat.{and_le_l}
use Rattle.std.specs.Prelude.{◌↔◌, IsTrue}
use Rattle.std.specs.Int.{bit_at, bit_not, trailing_zeros}
use Rattle.record_values.specs.declared.rid.TheConstants.{SLOTS_PER_PAGE}
use Rattle.heap_pages.specs.SlotSets.{flags_from, flags_of}

-- ---- the slots of a set

get-flags_from : (bits i n j : ℕ) → j < n → slice_get (flags_from bits i n) j ≡ Some (bit_at bits (i + j) == 1)
get-flags_from bits i zero j within = absurd (omega arith)
get-flags_from bits i (suc n) zero within = let same : i ≡ i + 0 = omega arith in ap (λ k. Some (bit_at bits k == 1)) same
get-flags_from bits i (suc n) (suc j) within = get-flags_from bits (i + 1) n j (omega arith)
    ∙ (let same : i + 1 + j ≡ i + suc j = omega arith in ap (λ k. Some (bit_at bits k == 1)) same)

length-flags_from : (bits i n : ℕ) → length (flags_from bits i n) ≡ n
length-flags_from bits i zero = refl
length-flags_from bits i (suc n) = let rest = length-flags_from bits (i + 1) n in omega arith

pub get-flags_of : (bits s : ℕ) → s < SLOTS_PER_PAGE → slice_get (flags_of bits) s ≡ Some (bit_at bits s == 1)
unfolding flags_of
get-flags_of bits s within = get-flags_from bits 0 SLOTS_PER_PAGE s within
    ∙ (let same : 0 + s ≡ s = omega arith in ap (λ k. Some (bit_at bits k == 1)) same)

inside : (bits s : ℕ) (b : Bool) → slice_get (flags_of bits) s ≡ Some b → s < SLOTS_PER_PAGE
unfolding flags_of
inside bits s b e =
    let within = slice_get_within (flags_from bits 0 SLOTS_PER_PAGE) s b e in
    let long = length-flags_from bits 0 SLOTS_PER_PAGE in
    omega arith

is_in : (bits s : ℕ) → s < SLOTS_PER_PAGE → bit_at bits s ≡ 1 → slice_get (flags_of bits) s ≡ Some true
is_in bits s within e = get-flags_of bits s within ∙ ap (λ b. Some (b == 1)) e

is_out : (bits s : ℕ) → s < SLOTS_PER_PAGE → bit_at bits s ≡ 0 → slice_get (flags_of bits) s ≡ Some false
is_out bits s within e = get-flags_of bits s within ∙ ap (λ b. Some (b == 1)) e

bit_of : (bits s : ℕ) → slice_get (flags_of bits) s ≡ Some true → bit_at bits s ≡ 1
bit_of bits s e = eqb-true (bit_at bits s) 1 (same_Some _ _ (sym (get-flags_of bits s (inside bits s true e)) ∙ e))

no_bit : (bits s : ℕ) → slice_get (flags_of bits) s ≡ Some false → s < SLOTS_PER_PAGE → bit_at bits s ≡ 0
no_bit bits s e within = by (bit_at bits s) (bit_at-lt bits s) (same_Some _ _ (sym (get-flags_of bits s within) ∙ e))
  where
    by : (b : ℕ) → b < 2 → (b == 1) ≡ false → b ≡ 0
    by zero low other = refl
    by (suc zero) low other = absurd (true≢false other)
    by (suc (suc b)) low other = absurd (omega arith)

-- ---- none of the slots, and all

none_from : (i n : ℕ) → flags_from 0 i n ≡ replicate n false
none_from i zero = refl
none_from i (suc n) = (λ j. ap (λ b. b == 1) (bit_at-zero i) j ∷ none_from (i + 1) n j)

pub no_slot : flags_of 0 ≡ replicate SLOTS_PER_PAGE false
unfolding flags_of
no_slot = none_from 0 SLOTS_PER_PAGE

all_from : (i n : ℕ) → i + n ≤ 63 → flags_from (2 ^ 63 - 1) i n ≡ replicate n true
all_from i zero fits = refl
all_from i (suc n) fits = (λ j. ap (λ b. b == 1) (bit_at_ones 63 i (omega arith)) j ∷ all_from (i + 1) n (omega arith) j)

pub each_slot : flags_of (2 ^ 63 - 1) ≡ replicate SLOTS_PER_PAGE true
unfolding flags_of
each_slot = all_from 0 SLOTS_PER_PAGE (omega arith)

pub none_in : (bits : ℕ) → bits < 2 ^ 63 → (IsTrue (bits == 0) ↔ ((s : ℕ) → s < SLOTS_PER_PAGE → slice_get (flags_of bits) s ≡ Some false))
none_in bits few = (
  λ none s within. is_out bits s within (ap (λ n. bit_at n s) (eqb-true bits 0 none) ∙ bit_at-zero s),
  λ each. eq-eqb bits 0 (same_from_bits_below 63 bits 0 few (omega arith) (λ i low. no_bit bits i (each i low) low ∙ sym (bit_at-zero i))),
)

pub all_in : (bits : ℕ) → bits ≡ 2 ^ 63 - 1 → (s : ℕ) → s < SLOTS_PER_PAGE → slice_get (flags_of bits) s ≡ Some true
all_in bits all s within = is_in bits s within (ap (λ n. bit_at n s) all ∙ bit_at_ones 63 s (omega arith))

-- ---- a slot is put in, or taken out

pub still_few : (a b : ℕ) → a < 2 ^ 63 → bit_and a b < 2 ^ 63
still_few a b few = let le = and_le_l a b in omega arith

flags_from-same : (a b i n : ℕ) → ((j : ℕ) → i ≤ j → j < i + n → bit_at b j ≡ bit_at a j) → flags_from b i n ≡ flags_from a i n
flags_from-same a b i zero each = refl
flags_from-same a b i (suc n) each =
    (λ j. ap (λ x. x == 1) (each i (omega arith) (omega arith)) j ∷ flags_from-same a b (i + 1) n (λ k low high. each k (omega arith) (omega arith)) j)

module _ (a b s : ℕ) (told : Bool) (here : (bit_at b s == 1) ≡ told) (others : (j : ℕ) → j < 64 → j ≢ s → bit_at b j ≡ bit_at a j) where
  flags_from-set : (i n k : ℕ) → s ≡ i + k → i + n ≤ 63 → flags_from b i n ≡ set (flags_from a i n) k told
  flags_from-set i zero k e fits = refl
  flags_from-set i (suc n) zero e fits =
      let same : i ≡ s = omega arith in
      (λ j. (ap (λ x. bit_at b x == 1) same ∙ here) j ∷ flags_from-same a b (i + 1) n (λ k low high. others k (omega arith) (λ f. omega arith)) j)
  flags_from-set i (suc n) (suc k) e fits =
      (λ j. ap (λ x. x == 1) (others i (omega arith) (λ f. omega arith)) j ∷ flags_from-set (i + 1) n k (omega arith) (omega arith) j)

  flags_of-set : flags_of b ≡ slice_set (flags_of a) s told
  unfolding flags_of
  flags_of-set = flags_from-set 0 SLOTS_PER_PAGE s (omega arith) (omega arith)

flag_told : (told : Bool) → (cond told 1 0 == 1) ≡ told
flag_told true = refl
flag_told false = refl

pub slot_put : (a b s : ℕ) (told : Bool) → bit_at b s ≡ cond told 1 0 → ((j : ℕ) → j < 64 → j ≢ s → bit_at b j ≡ bit_at a j)
    → flags_of b ≡ slice_set (flags_of a) s told
slot_put a b s told is others = flags_of-set a b s told (ap (λ x. x == 1) is ∙ flag_told told) others

-- ---- the first slot that another set has not

module _ (a b : ℕ) (few : a < 2 ^ 63) (few_others : b < 2 ^ 63) where
  abbrev rest : ℕ
  rest = bit_and a (bit_not w64 b)

  bit_rest : (i : ℕ) → i < 64 → bit_at rest i ≡ min (bit_at a i) (1 - bit_at b i)
  bit_rest i within = bit_at_and a (bit_not w64 b) i ∙ ap (min (bit_at a i)) (bit_at_not w64 b i (omega arith) within)

  -- where the rest has no bit at a slot of the set, the other set has the slot
  covered : (t : ℕ) → bit_at rest t ≡ 0 → slice_get (flags_of a) t ≡ Some true → slice_get (flags_of b) t ≡ Some true
  covered t none has =
      let within = inside a t true has in
      let zero_there : min (bit_at a t) (1 - bit_at b t) ≡ 0 = sym (bit_rest t (omega arith)) ∙ none in
      let one = bit_of a t has in
      let low = bit_at-lt b t in
      is_in b t within (omega (arith, zero_there, one, low))

  pub none_beside : rest ≡ 0 → (t : ℕ) → slice_get (flags_of a) t ≡ Some true → slice_get (flags_of b) t ≡ Some true
  none_beside none t has = covered t (ap (λ n. bit_at n t) none ∙ bit_at-zero t) has

  module _ (some : 0 < rest) where
    lowest : (trailing_zeros w64 rest < 64) × (bit_at rest (trailing_zeros w64 rest) ≡ 1)
        × ((i : ℕ) → i < trailing_zeros w64 rest → bit_at rest i ≡ 0)
    lowest = bit_at-trailing_zeros w64 rest some (let le = and_le_l a (bit_not w64 b) in omega arith)

    both : min (bit_at a (trailing_zeros w64 rest)) (1 - bit_at b (trailing_zeros w64 rest)) ≡ 1
    both = sym (bit_rest (trailing_zeros w64 rest) lowest.0) ∙ lowest.1

    mine : bit_at a (trailing_zeros w64 rest) ≡ 1
    mine = let low = bit_at-lt a (trailing_zeros w64 rest) in omega (arith, both, low)

    pub within_page : trailing_zeros w64 rest < SLOTS_PER_PAGE
    within_page = ⊎_elim (λ (low : trailing_zeros w64 rest < 63). low) (λ (high : 63 ≤ trailing_zeros w64 rest).
        let gone = bit_at_above a 63 (trailing_zeros w64 rest) few high in absurd (omega (arith, gone, mine))) (cases_lt (trailing_zeros w64 rest) 63)

    pub lowest_is : (slice_get (flags_of a) (trailing_zeros w64 rest) ≡ Some true) × (slice_get (flags_of b) (trailing_zeros w64 rest) ≡ Some false)
    lowest_is = (
      is_in a (trailing_zeros w64 rest) within_page mine,
      is_out b (trailing_zeros w64 rest) within_page (omega (arith, both)),
    )

    pub none_before_lowest : (t : ℕ) → t < trailing_zeros w64 rest → slice_get (flags_of a) t ≡ Some true → slice_get (flags_of b) t ≡ Some true
    none_before_lowest t low has = covered t (lowest.2 t low) has
