-- An area that was sealed, and one that is loaded.
use Rattle.std.proofs.Common.{◌≡◌, ◌≢◌, ℕ, ◌+◌, ◌%◌, ◌<◌, ◌≤◌, nat_le, nat_lt, true, false, ◌&&◌, ◌==◌, if◌then◌else◌, List, length, map, take}
use Rattle.std.proofs.Common.{slice_index}
use Rattle.std.proofs.Common.{Some, None, refl, ◌∙◌, ap, arith, length-take}
use Rattle.std.specs.List.{range_with_len}
use Rattle.std.proofs.lemmas.Bool.{and_parts, leb-true, ltb-true, ne_eqb}
use Rattle.std.proofs.lemmas.List.{get_or-take}
use Rattle.block_device.specs.Blocks.{CrashFile, block}
use Rattle.block_device.specs.Words.{word}
use Rattle.block_batch.specs.declared.head.TheConstants.{PLACES_MAX}
use Rattle.block_batch.specs.Batch.{Entry, Batch, batch_in, count_in, do_fit, head_digest, is_batch, number_in, place_in}
use Rattle.block_journal.specs.Layout.{found_in}
use Rattle.block_journal.specs.Entries.{entries_in, entry_at}
use Rattle.block_journal.proofs.Entries.{entries_same, same_map}
use Rattle.block_journal.proofs.Placing.{found_is}

-- an area whose head tells these places has this batch
pub batch_is : (area : CrashFile) (number count : ℕ) (places : List ℕ) → number_in area ≡ number → count_in area ≡ count
    → ((i : ℕ) → i < count → place_in area i ≡ slice_index places i) → batch_in area ≡ record { number = number; entries = entries_in area places count }
batch_is area number count places numbered counted placed = λ i. record { number = numbered i; entries = entries i }
  where
    told : ℕ → Entry
    told i = record { place = place_in area i; bytes = block area (1 + i) }

    each : (i : ℕ) → i < count → told i ≡ entry_at area places i
    each i below = λ j. record { place = placed i below j; bytes = block area (1 + i) }

    entries : (batch_in area).entries ≡ entries_in area places count
    entries = ap (λ (n : ℕ). map told (range_with_len 0 n)) counted ∙ same_map told (entry_at area places) count each

-- ---- the blocks behind the head of a sealed area stay

module _ (area sealed : CrashFile) (count : ℕ) (places : List ℕ) (stays : (n : ℕ) → 0 < n → block sealed n ≡ block area n) where
  pub entries_stay : entries_in sealed places count ≡ entries_in area places count
  entries_stay = entries_same area sealed places places count (λ i below. refl) (λ i below. stays (1 + i) (omega arith))

  -- it has the batch of them, where the head tells the first so many places
  module _ (number : ℕ) (few : count ≤ length places) (numbered : number_in sealed ≡ number) (counted : count_in sealed ≡ length (take count places))
      (placed : (i : ℕ) → i < length (take count places) → place_in sealed i ≡ slice_index (take count places) i) where
    long : length (take count places) ≡ count
    long = omega (arith, length-take count places, few)

    pub sealed_count : count_in sealed ≡ count
    sealed_count = counted ∙ long

    pub sealed_is : batch_in sealed ≡ record { number = number; entries = entries_in sealed places count }
    sealed_is = batch_is sealed number count places numbered sealed_count
        (λ i below. placed i (omega (arith, below, long)) ∙ get_or-take count places i 0 below)

-- ---- what an area has

-- how many blocks a batch has
pub few_in : (area : CrashFile) → is_batch area ≡ true → (count_in area ≤ PLACES_MAX) × (count_in area < length area)
few_in area is =
    let first = and_parts _ (nat_le (count_in area) PLACES_MAX && (nat_lt (count_in area) (length area)
    && ((word (block area 0) 511 == head_digest area) && do_fit area (count_in area)))) is in
    let second = and_parts (nat_le (count_in area) PLACES_MAX) (nat_lt (count_in area) (length area)
    && ((word (block area 0) 511 == head_digest area) && do_fit area (count_in area))) first.1 in
    let third = and_parts (nat_lt (count_in area) (length area)) ((word (block area 0) 511 == head_digest area) && do_fit area (count_in area)) second.1 in
    (leb-true (count_in area) PLACES_MAX second.0, ltb-true (count_in area) (length area) third.0)

-- none
pub none_in : (area : CrashFile) (a : ℕ) → is_batch area ≡ false → found_in area a ≡ None
none_in area a is = λ i. if is i && (number_in area % 2 == a) then Some (batch_in area) else None

-- one whose number belongs to the other area
pub other_in : (area : CrashFile) (a : ℕ) → is_batch area ≡ true → number_in area % 2 ≢ a → found_in area a ≡ None
other_in area a is other = λ i. if is i && ne_eqb (number_in area % 2) a other i then Some (batch_in area) else None

-- one that is taken
pub taken_in : (area : CrashFile) (a number count : ℕ) (places : List ℕ) → is_batch area ≡ true → number_in area ≡ number → count_in area ≡ count
    → ((i : ℕ) → i < count → place_in area i ≡ slice_index places i) → number % 2 ≡ a
    → found_in area a ≡ Some (record { number = number; entries = entries_in area places count })
taken_in area a number count places is numbered counted placed parity =
    found_is area a is (ap (λ (n : ℕ). n % 2) numbered ∙ parity)
    ∙ ap (λ (b : Batch). Some b) (batch_is area number count places numbered counted placed)
