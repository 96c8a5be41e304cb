-- A head that is sealed, and a head that is tested.
use Rattle.std.proofs.Common.{◌≡◌, ◌≢◌, ℕ, zero, suc, ◌+◌, ◌*◌, ◌<◌, ◌≤◌, nat_le, nat_lt, Bool, true, false, ◌&&◌, ◌==◌, List, [], length, take}
use Rattle.std.proofs.Common.{slice_index, slice_set, inl, inr, refl, sym, ◌∙◌, ap, arith}
use Rattle.std.proofs.lemmas.Bool.{cases_eq}
use Rattle.std.proofs.lemmas.Bool.Decides.{nat_tests}
use Rattle.std.proofs.lemmas.List.{take-set-le, get_or-set_same, get_or-set_other}
use Rattle.std.specs.List.{flat_map}
use Rattle.byteorder.specs.Endian.{big_bytes}
use Rattle.block_device.specs.Blocks.{CrashFile, block}
use Rattle.block_digest.specs.Digest.{digest}
use Rattle.block_device.specs.Words.{word}
use Rattle.block_device.proofs.Spelled.{take_spelled}
use Rattle.block_batch.specs.declared.head.TheConstants.{TEXT, PLACES_MAX}
use Rattle.block_batch.specs.Batch.{count_in, place_in, digest_in, block_digest, head_digest, do_fit, is_batch}

-- ---- the five tests

pub five : (a b c d e f g h : ℕ) (last : Bool) → a ≡ b → c ≤ d → e < f → g ≡ h → last ≡ true
    → ((a == b) && (nat_le c d && (nat_lt e f && ((g == h) && last)))) ≡ true
five a b c d e f g h last first second third fourth fifth = grind (arith, nat_tests)

pub not_first : (a b : ℕ) (rest : Bool) → a ≢ b → ((a == b) && rest) ≡ false
not_first a b rest other = grind (arith, nat_tests)

pub not_second : (first : Bool) (c d : ℕ) (rest : Bool) → d < c → (first && (nat_le c d && rest)) ≡ false
not_second true c d rest more = grind (arith, nat_tests)
not_second false c d rest more = refl

pub not_third : (first second : Bool) (e f : ℕ) (rest : Bool) → f ≤ e → (first && (second && (nat_lt e f && rest))) ≡ false
not_third true true e f rest more = grind (arith, nat_tests)
not_third true false e f rest more = refl
not_third false second e f rest more = refl

not_both : (first second third both : Bool) → both ≡ false → (first && (second && (third && both))) ≡ false
not_both true true true both is = is
not_both true true false both is = refl
not_both true false third both is = refl
not_both false second third both is = refl

pub not_fourth : (first second third : Bool) (g h : ℕ) (rest : Bool) → g ≢ h → (first && (second && (third && ((g == h) && rest)))) ≡ false
not_fourth first second third g h rest other = not_both first second third ((g == h) && rest) (not_first g h rest other)

pub not_fifth : (first second third fourth last : Bool) → last ≡ false → (first && (second && (third && (fourth && last)))) ≡ false
not_fifth first second third true last is = not_both first second third last is
not_fifth first second third false last is = not_both first second third false refl

-- ---- blocks that fit

module _ (area : CrashFile) where
  pub fits_more : (n : ℕ) → do_fit area n ≡ true → digest_in area n ≡ block_digest (place_in area n) (block area (1 + n)) → do_fit area (n + 1) ≡ true
  fits_more n so_far is = ap (do_fit area) next ∙ both (do_fit area n) (digest_in area n) (block_digest (place_in area n) (block area (1 + n))) so_far is
    where
      next : n + 1 ≡ suc n
      next = omega arith

      both : (b : Bool) (x y : ℕ) → b ≡ true → x ≡ y → (b && (x == y)) ≡ true
      both b x y all same = grind (arith, nat_tests)

  unfit : (n : ℕ) → digest_in area n ≢ block_digest (place_in area n) (block area (1 + n)) → do_fit area (suc n) ≡ false
  unfit n other = neither (do_fit area n) (digest_in area n) (block_digest (place_in area n) (block area (1 + n))) other
    where
      neither : (b : Bool) (x y : ℕ) → x ≢ y → (b && (x == y)) ≡ false
      neither true x y apart = grind (arith, nat_tests)
      neither false x y apart = refl

  pub unfit_stays : (i n : ℕ) → i < n → digest_in area i ≢ block_digest (place_in area i) (block area (1 + i)) → do_fit area n ≡ false
  unfit_stays i zero below other = absurd (omega (arith, below))
  unfit_stays i (suc n) below other = elim (cases_eq i n) [
    | inl is ↦ ap (λ k. do_fit area (suc k)) (sym is) ∙ unfit i other
    | inr apart ↦ front (do_fit area n) (digest_in area n == block_digest (place_in area n) (block area (1 + n)))
        (unfit_stays i n (omega (arith, below, apart)) other)
  ]
    where
      front : (b last : Bool) → b ≡ false → (b && last) ≡ false
      front b last is = ap (λ x. x && last) is

-- ---- sealing

-- the bytes in front of the digest stay as it is put in its place
digested : (words : List ℕ) (d n : ℕ) → n ≤ 511 → take (8 * n) (flat_map (big_bytes 8) (slice_set words 511 d)) ≡ take (8 * n) (flat_map (big_bytes 8) words)
digested words d n few =
    take_spelled (slice_set words 511 d) n ∙ ap (flat_map (big_bytes 8)) (take-set-le n words 511 d few) ∙ sym (take_spelled words n)

module _ (area now : CrashFile) (words head sealed places digests : List ℕ) (d : ℕ) (long : length words ≡ 512)
    (head_is : head ≡ flat_map (big_bytes 8) words) (sealed_is : sealed ≡ flat_map (big_bytes 8) (slice_set words 511 d))
    (again : (i : ℕ) → i < 512 → word sealed i ≡ slice_index (slice_set words 511 d) i)
    (now_is : now ≡ slice_set area 0 sealed) (few : length places ≤ PLACES_MAX) (room : length places < length area) where
  front : block now 0 ≡ sealed
  front = ap (λ (image : CrashFile). block image 0) now_is ∙ get_or-set_same area 0 sealed [] (omega (arith, room))

  -- the numbers of the head
  pub sealed_word : (i : ℕ) → i < 511 → word (block now 0) i ≡ slice_index words i
  sealed_word i below =
      ap (λ (bytes : List ℕ). word bytes i) front
      ∙ again i (omega (arith, below))
      ∙ get_or-set_other words 511 i d 0 (omega (arith, below))

  sealed_digest : word (block now 0) 511 ≡ d
  sealed_digest =
      ap (λ (bytes : List ℕ). word bytes 511) front
      ∙ again 511 (omega arith)
      ∙ get_or-set_same words 511 d 0 (omega (arith, long))

  -- the blocks behind it
  pub sealed_block : (n : ℕ) → 0 < n → block now n ≡ block area n
  sealed_block n some = ap (λ (image : CrashFile). block image n) now_is ∙ get_or-set_other area 0 n sealed [] (omega (arith, some))

  module _ (text : slice_index words 0 ≡ TEXT) (count_is : slice_index words 2 ≡ length places)
      (places_are : (i : ℕ) → i < length places → slice_index words (3 + 2 * i) ≡ slice_index places i)
      (digests_are : (i : ℕ) → i < length places → slice_index words (4 + 2 * i) ≡ slice_index digests i)
      (fitting : (i : ℕ) → i < length places → slice_index digests i ≡ block_digest (slice_index places i) (block area (1 + i)))
      (d_is : d ≡ digest (take (8 * (3 + 2 * length places)) head)) (size : length now ≡ length area) where
    pub counted : count_in now ≡ length places
    counted = sealed_word 2 (omega arith) ∙ count_is

    pub placed : (i : ℕ) → i < length places → place_in now i ≡ slice_index places i
    placed i below = sealed_word (3 + 2 * i) (omega (arith, below, few)) ∙ places_are i below

    fit_all : (n : ℕ) → n ≤ length places → do_fit now n ≡ true
    fit_all zero le = refl
    fit_all (suc n) le =
        let below : n < length places = omega (arith, le) in
        let next : suc n ≡ n + 1 = omega arith in
        ap (do_fit now) next ∙ fits_more now n (fit_all n (omega (arith, le)))
        (sealed_word (4 + 2 * n) (omega (arith, below, few)) ∙ digests_are n below ∙ fitting n below
        ∙ ap (λ place. block_digest place (block area (1 + n))) (sym (placed n below))
        ∙ ap (block_digest (place_in now n)) (sym (sealed_block (1 + n) (omega arith))))

    same_front : take (8 * (3 + 2 * length places)) head ≡ take (8 * (3 + 2 * length places)) (block now 0)
    same_front = ap (take (8 * (3 + 2 * length places))) head_is
        ∙ sym (digested words d (3 + 2 * length places) (omega (arith, few)))
        ∙ sym (ap (take (8 * (3 + 2 * length places))) (front ∙ sealed_is))

    head_fits : word (block now 0) 511 ≡ head_digest now
    head_fits = sealed_digest ∙ d_is ∙ ap digest same_front
        ∙ ap (λ n. digest (take (8 * (3 + 2 * n)) (block now 0))) (sym counted)

    pub sealed_batch : is_batch now ≡ true
    sealed_batch = five (word (block now 0) 0) TEXT (count_in now) PLACES_MAX (count_in now) (length now) (word (block now 0) 511) (head_digest now)
        (do_fit now (count_in now)) (sealed_word 0 (omega arith) ∙ text) (omega (arith, counted, few)) (omega (arith, counted, size, room)) head_fits
        (fit_all (count_in now) (omega (arith, counted)))
