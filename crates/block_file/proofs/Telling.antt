-- A header that is spelled, and one that is tested.
use Rattle.std.proofs.Common.{◌≡◌, ◌≢◌, ℕ, ◌*◌, ◌<◌, ◌≤◌, Bool, true, false, ◌&&◌, ◌==◌, if◌then◌else◌, List, length, take, slice_index, slice_set}
use Rattle.std.proofs.Common.{Option, Some, None, ⊎_elim, replicate, refl, sym, ◌∙◌, ap, arith}
use Rattle.std.proofs.Math.ListN.{length-replicate}
use Rattle.std.proofs.lemmas.Bool.{cases_eq, cases_lt}
use Rattle.std.proofs.lemmas.Bool.Decides.{nat_tests}
use Rattle.std.proofs.lemmas.List.{take-set-le, get_or-replicate, get_or-set_same, get_or-set_other, get_or_past}
use Rattle.std.specs.List.{flat_map}
use Rattle.byteorder.specs.Endian.{big_bytes}
use Rattle.block_digest.specs.Digest.{digest}
use Rattle.block_device.specs.Words.{word}
use Rattle.block_device.proofs.Spelled.{take_spelled}
use Rattle.block_file.specs.declared.header.TheConstants.{TEXT, VERSION}
use Rattle.block_file.specs.declared.plan.Plan.{Plan}
use Rattle.block_file.specs.Header.{can_be, is_header, plan_for, told_by}

-- ---- the tests

three : (a b c d e f : ℕ) → a ≡ b → c ≡ d → e ≡ f → ((a == b) && ((c == d) && (e == f))) ≡ true
three a b c d e f first second third = grind (arith, nat_tests)

not_one : (a b : ℕ) (rest : Bool) → a ≢ b → ((a == b) && rest) ≡ false
not_one a b rest other = grind (arith, nat_tests)

not_two : (first : Bool) (a b : ℕ) (rest : Bool) → a ≢ b → (first && ((a == b) && rest)) ≡ false
not_two true a b rest other = not_one a b rest other
not_two false a b rest other = refl

not_last : (a b : ℕ) → a ≢ b → (a == b) ≡ false
not_last a b other = grind (arith, nat_tests)

not_three : (first second : Bool) (a b : ℕ) → a ≢ b → (first && (second && (a == b))) ≡ false
not_three true true a b other = not_last a b other
not_three true false a b other = refl
not_three false second a b other = refl

pub no_text : (bytes : List ℕ) → word bytes 0 ≢ TEXT → is_header bytes ≡ false
no_text bytes other = not_one (word bytes 0) TEXT _ other

pub no_version : (bytes : List ℕ) → word bytes 1 ≢ VERSION → is_header bytes ≡ false
no_version bytes other = not_two _ (word bytes 1) VERSION _ other

pub no_digest : (bytes : List ℕ) → word bytes 511 ≢ digest (take 4088 bytes) → is_header bytes ≡ false
no_digest bytes other = not_three _ _ (word bytes 511) (digest (take 4088 bytes)) other

pub yes_header : (bytes : List ℕ) → word bytes 0 ≡ TEXT → word bytes 1 ≡ VERSION → word bytes 511 ≡ digest (take 4088 bytes) → is_header bytes ≡ true
yes_header bytes text version fits = three (word bytes 0) TEXT (word bytes 1) VERSION (word bytes 511) (digest (take 4088 bytes)) text version fits

-- what a block tells that is no header, and one that is
pub tells_none : (bytes : List ℕ) → is_header bytes ≡ false → told_by bytes ≡ None
tells_none bytes is = ap (λ (b : Bool). if b && can_be (word bytes 2) (word bytes 3) (word bytes 4)
    then Some (plan_for (word bytes 2) (word bytes 3) (word bytes 4)) else None) is

pub tells : (bytes : List ℕ) → is_header bytes ≡ true → told_by bytes
    ≡ (if can_be (word bytes 2) (word bytes 3) (word bytes 4) then Some (plan_for (word bytes 2) (word bytes 3) (word bytes 4)) else None)
tells bytes is = ap (λ (b : Bool). if b && can_be (word bytes 2) (word bytes 3) (word bytes 4)
    then Some (plan_for (word bytes 2) (word bytes 3) (word bytes 4)) else None) is

-- what can be
pub plan_some : (s l a : ℕ) (p : Plan) → can_be s l a ≡ true → (if can_be s l a then Some p else None) ≡ Some p
plan_some s l a p is = ap (λ (b : Bool). if b then Some p else None) is

-- what tells a plan has the digest of its bytes
pub header_fits : (bytes : List ℕ) (p : Plan) → told_by bytes ≡ Some p → word bytes 511 ≡ digest (take 4088 bytes)
header_fits bytes p told = ⊎_elim (λ same. same) (λ other. absurd (never (sym (tells_none bytes (no_digest bytes other)) ∙ told)))
    (cases_eq (word bytes 511) (digest (take 4088 bytes)))
  where
    never : Path (Option Plan) None (Some p) → ⊥
    never is = absurd cc

-- ---- a header is spelled

-- the first bytes that numbers spell, whatever the last number is
front : (words : List ℕ) (d n : ℕ) → n ≤ 511 → take (8 * n) (flat_map (big_bytes 8) (slice_set words 511 d)) ≡ take (8 * n) (flat_map (big_bytes 8) words)
front words d n few = take_spelled (slice_set words 511 d) n ∙ ap (flat_map (big_bytes 8)) (take-set-le n words 511 d few) ∙ sym (take_spelled words n)

module _ (words spelled bytes : List ℕ) (d : ℕ) (long : length words ≡ 512) (first : spelled ≡ flat_map (big_bytes 8) words)
    (second : bytes ≡ flat_map (big_bytes 8) (slice_set words 511 d))
    (again : (i : ℕ) → i < 512 → word bytes i ≡ slice_index (slice_set words 511 d) i) (is : d ≡ digest (take 4088 spelled)) where
  pub says : (i : ℕ) → i < 511 → word bytes i ≡ slice_index words i
  says i below = again i (omega (arith, below)) ∙ get_or-set_other words 511 i d 0 (omega (arith, below))

  fits : word bytes 511 ≡ digest (take 4088 bytes)
  fits =
      again 511 (omega arith) ∙ get_or-set_same words 511 d 0 (omega (arith, long)) ∙ is
      ∙ ap digest (ap (take 4088) first ∙ sym (front words d 511 (omega arith)) ∙ sym (ap (take 4088) second))

  pub spelled_tells : (s l a : ℕ) → slice_index words 0 ≡ TEXT → slice_index words 1 ≡ VERSION → slice_index words 2 ≡ s → slice_index words 3 ≡ l
      → slice_index words 4 ≡ a → can_be s l a ≡ true → told_by bytes ≡ Some (plan_for s l a)
  spelled_tells s l a text version sectors lead area can =
      let second = says 2 (omega arith) ∙ sectors in
      let third = says 3 (omega arith) ∙ lead in
      let fourth = says 4 (omega arith) ∙ area in
      tells bytes (yes_header bytes (says 0 (omega arith) ∙ text) (says 1 (omega arith) ∙ version) fits)
      ∙ (λ i. if can_be (second i) (third i) (fourth i) then Some (plan_for (second i) (third i) (fourth i)) else None)
      ∙ plan_some s l a (plan_for s l a) can

-- ---- the numbers that it doesn't need

zero_at : (n k : ℕ) → slice_index (replicate n 0) k ≡ 0
zero_at n k = ⊎_elim (λ below. get_or-replicate {A = ℕ} n k 0 0 below)
    (λ past. get_or_past {X = ℕ} (replicate n 0) k 0 (omega (arith, length-replicate {A = ℕ} n 0, past))) (cases_lt k n)

-- behind the first five of them, which are written, each is zero
module _ (text version sectors lead area k : ℕ) (behind : 4 < k) where
  abbrev first_three : List ℕ
  first_three = slice_set (slice_set (slice_set (replicate 512 0) 0 text) 1 version) 2 sectors

  pub zero_behind : slice_index (slice_set (slice_set first_three 3 lead) 4 area) k ≡ 0
  zero_behind =
      get_or-set_other (slice_set first_three 3 lead) 4 k area 0 (omega (arith, behind))
      ∙ get_or-set_other first_three 3 k lead 0 (omega (arith, behind))
      ∙ get_or-set_other (slice_set (slice_set (replicate 512 0) 0 text) 1 version) 2 k sectors 0 (omega (arith, behind))
      ∙ get_or-set_other (slice_set (replicate 512 0) 0 text) 1 k version 0 (omega (arith, behind))
      ∙ get_or-set_other (replicate 512 0) 0 k text 0 (omega (arith, behind))
      ∙ zero_at 512 k
