-- A batch in a larger area.
use Rattle.std.proofs.Common.{◌≡◌, ℕ, zero, suc, ◌+◌, ◌*◌, ◌<◌, ◌≤◌, nat_le, nat_lt, Bool, true, false, ◌&&◌, ◌==◌, List, [], length, take, map, refl, sym, ◌∙◌}
use Rattle.std.proofs.Common.{ap, arith, slice_index_or}
use Rattle.std.specs.List.{range_with_len}
use Rattle.std.proofs.lemmas.Bool.{false≢true}
use Rattle.std.proofs.lemmas.Bool.Decides.{nat_tests}
use Rattle.std.proofs.lemmas.List.{ext_get_or}
use Rattle.std.proofs.lemmas.List.FromFn.{length-map-range_with_len, get_or-map-range_with_len}
use Rattle.block_device.specs.Blocks.{CrashFile, block}
use Rattle.block_digest.specs.Digest.{digest}
use Rattle.block_device.specs.Words.{word}
use Rattle.block_batch.specs.declared.head.TheConstants.{TEXT, PLACES_MAX}
use Rattle.block_batch.specs.Batch.{Entry, count_in, place_in, block_digest, head_digest, do_fit, is_batch, batch_in}

-- what five tests say that all hold
parts : (a b c d e : Bool) → (a && (b && (c && (d && e)))) ≡ true → (a ≡ true) × (b ≡ true) × (c ≡ true) × (d ≡ true) × (e ≡ true)
parts true true true true e is = (refl, refl, refl, refl, is)
parts true true true false e is = absurd (false≢true is)
parts true true false d e is = absurd (false≢true is)
parts true false c d e is = absurd (false≢true is)
parts false b c d e is = absurd (false≢true is)

whole : (a b c d e : Bool) → a ≡ true → b ≡ true → c ≡ true → d ≡ true → e ≡ true → (a && (b && (c && (d && e)))) ≡ true
whole a b c d e p q r s t = λ i. p i && (q i && (r i && (s i && t i)))

shorter : (x m n : ℕ) → nat_lt x m ≡ true → m ≤ n → nat_lt x n ≡ true
shorter x m n is le = grind (arith, nat_tests)

same_entries : (f g : ℕ → Entry) (n : ℕ) → ((i : ℕ) → i < n → f i ≡ g i) → map f (range_with_len 0 n) ≡ map g (range_with_len 0 n)
same_entries f g n same = ext_get_or none (map f (range_with_len 0 n)) (map g (range_with_len 0 n)) sizes each
  where
    none : Entry
    none = record { place = 0; bytes = [] }

    sizes : length (map f (range_with_len 0 n)) ≡ length (map g (range_with_len 0 n))
    sizes = length-map-range_with_len f 0 n ∙ sym (length-map-range_with_len g 0 n)

    each : (i : ℕ) → i < length (map f (range_with_len 0 n))
        → slice_index_or (map f (range_with_len 0 n)) i none ≡ slice_index_or (map g (range_with_len 0 n)) i none
    each i below =
        let within : i < n = omega (arith, below, length-map-range_with_len f 0 n) in
        get_or-map-range_with_len f 0 n i i none within (omega arith) ∙ same i within ∙ sym (get_or-map-range_with_len g 0 n i i none within (omega arith))

-- the i-th block of a batch
abbrev entry_of : CrashFile → ℕ → Entry
entry_of image i = record { place = place_in image i; bytes = block image (1 + i) }

module _ (area other : CrashFile) (le : length area ≤ length other) (same : (n : ℕ) → n ≤ count_in area → block other n ≡ block area n) where
  head : block other 0 ≡ block area 0
  head = same 0 (omega arith)

  counted : count_in other ≡ count_in area
  counted = ap (λ (bytes : List ℕ). word bytes 2) head

  fit_same : (n : ℕ) → n ≤ count_in area → do_fit other n ≡ do_fit area n
  fit_same zero le = refl
  fit_same (suc n) le = λ i.
      fit_same n (omega (arith, le)) i
      && (word (head i) (4 + 2 * n) == block_digest (word (head i) (3 + 2 * n)) (same (1 + n) (omega (arith, le)) i))

  pub larger_has : is_batch area ≡ true → is_batch other ≡ true
  larger_has is =
      let known = parts (word (block area 0) 0 == TEXT) (nat_le (count_in area) PLACES_MAX) (nat_lt (count_in area) (length area))
      (word (block area 0) 511 == head_digest area) (do_fit area (count_in area)) is in
      whole (word (block other 0) 0 == TEXT) (nat_le (count_in other) PLACES_MAX) (nat_lt (count_in other) (length other))
      (word (block other 0) 511 == head_digest other) (do_fit other (count_in other))
      (ap (λ (bytes : List ℕ). word bytes 0 == TEXT) head ∙ known.0)
      (ap (λ n. nat_le n PLACES_MAX) counted ∙ known.1)
      (ap (λ n. nat_lt n (length other)) counted ∙ shorter (count_in area) (length area) (length other) known.2 le)
      (ap (λ (bytes : List ℕ). word bytes 511 == digest (take (8 * (3 + 2 * word bytes 2)) bytes)) head ∙ known.3)
      (ap (do_fit other) counted ∙ fit_same (count_in area) (omega arith) ∙ known.4)

  pub larger_same : batch_in other ≡ batch_in area
  larger_same = λ i. record { number = word (head i) 1; entries = entries i }
    where
      each : (k : ℕ) → k < count_in area → entry_of other k ≡ entry_of area k
      each k below = λ j. record { place = word (head j) (3 + 2 * k); bytes = same (1 + k) (omega (arith, below)) j }

      entries : map (entry_of other) (range_with_len 0 (count_in other)) ≡ map (entry_of area) (range_with_len 0 (count_in area))
      entries =
          ap (λ (n : ℕ). map {B = Entry} (entry_of other) (range_with_len 0 n)) counted
          ∙ same_entries (entry_of other) (entry_of area) (count_in area) each
