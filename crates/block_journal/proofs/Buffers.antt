-- A buffer after a block was put, and after it was sealed.
use Rattle.std.proofs.Common.{◌≡◌, ℕ, ◌+◌, ◌%◌, ◌<◌, ◌≤◌, true, List, Some, length, max, take, slice_index, slice_set, sym, ◌∙◌, ap, arith}
use Rattle.std.proofs.Common.{length-set}
use Rattle.block_device.specs.Blocks.{CrashFile, block}
use Rattle.block_batch.specs.Batch.{Entry, Batch, batch_in, count_in, is_batch, number_in, place_in, replayed}
use Rattle.block_journal.specs.declared.gathered.Gathered.{Gathered}
use Rattle.block_journal.specs.Entries.{IsSlot, entries_in}
use Rattle.block_journal.specs.Gathered.{IsBuffer, IsSealed, entries_of}
use Rattle.block_journal.specs.Layout.{found_in}
use Rattle.block_journal.specs.Opening.{HasTaken}
use Rattle.block_journal.proofs.Entries.{put_is}
use Rattle.block_journal.proofs.Loading.{batch_is, entries_stay, few_in, sealed_count, sealed_is, taken_in}

module _ {A : Type 0} (b n : Gathered A) (whole : IsBuffer b) where
  -- a block is put
  module _ (i place : ℕ) (bytes : List ℕ) (room : b.count + 1 < length b.area.items) (low : i ≤ b.count)
      (slot : IsSlot b.places b.count place i) (area : n.area.items ≡ slice_set b.area.items (i + 1) bytes)
      (places : n.places ≡ slice_set b.places i place) (count : n.count ≡ max b.count (i + 1)) where
    under : i + 1 < length b.area.items
    under = omega (arith, low, room)

    under_places : i < length b.places
    under_places = omega (arith, low, room, whole.few, whole.places)

    same_size : length n.area.items ≡ length b.area.items
    same_size = ap length area ∙ length-set b.area.items (i + 1) bytes

    pub put_replayed : (image : CrashFile) → replayed (entries_of n) image ≡ slice_set (replayed (entries_of b) image) place bytes
    put_replayed image =
        let now : replayed (entries_of n) image
        ≡ replayed (entries_in (slice_set b.area.items (i + 1) bytes) (slice_set b.places i place) (max b.count (i + 1))) image =
        λ j. replayed (entries_in (area j) (places j) (count j)) image in
        now
        ∙ put_is b.area.items b.places i place bytes under under_places image b.count slot

    pub put_buffer : IsBuffer n
    put_buffer = record {
      places = ap length places ∙ length-set b.places i place ∙ whole.places;
      few = omega (arith, same_size, whole.few);
      count = omega (arith, same_size, count, low, room);
    }

    pub put_size : length n.area.items ≡ length b.area.items
    put_size = same_size

  -- it is sealed
  module _ (number : ℕ) (sealed : CrashFile) (area : n.area.items ≡ sealed) (places : n.places ≡ b.places) (count : n.count ≡ b.count)
      (size : length sealed ≡ length b.area.items) (batch : is_batch sealed ≡ true) (numbered : number_in sealed ≡ number)
      (counted : count_in sealed ≡ length (take b.count b.places))
      (placed : (i : ℕ) → i < length (take b.count b.places) → place_in sealed i ≡ slice_index (take b.count b.places) i)
      (stays : (k : ℕ) → 0 < k → block sealed k ≡ block b.area.items k) where
    low : b.count ≤ length b.places
    low = omega (arith, whole.count, whole.few, whole.places)

    entries_now : entries_of n ≡ entries_in sealed b.places b.count
    entries_now = λ j. entries_in (area j) (places j) (count j)

    pub now_sealed : IsSealed number n
    now_sealed = record {
      batch = ap is_batch area ∙ batch;
      same = ap batch_in area
          ∙ sealed_is b.area.items sealed b.count b.places stays number low numbered counted placed
          ∙ sym (ap (λ (l : List Entry). record { number = number; entries = l }) entries_now);
      counted = ap count_in area ∙ sealed_count b.area.items sealed b.count b.places stays number low numbered counted placed ∙ sym count;
    }

    pub entries_kept : entries_of n ≡ entries_of b
    entries_kept = entries_now ∙ entries_stay b.area.items sealed b.count b.places stays

    pub sealed_size : length n.area.items ≡ length b.area.items
    sealed_size = ap length area ∙ size

    pub sealed_buffer : IsBuffer n
    sealed_buffer = record {
      places = ap length places ∙ whole.places;
      few = omega (arith, sealed_size, whole.few);
      count = omega (arith, sealed_size, count, whole.count);
    }

  -- the batch of its area is taken
  module _ (a number count : ℕ) (batch : is_batch b.area.items ≡ true) (numbered : number_in b.area.items ≡ number)
      (counted : count_in b.area.items ≡ count) (parity : number % 2 ≡ a) (area : n.area.items ≡ b.area.items) (count_is : n.count ≡ count)
      (places : length n.places ≡ 254) (placed : (i : ℕ) → i < count → place_in b.area.items i ≡ slice_index n.places i) where
    entries_there : entries_of n ≡ entries_in b.area.items n.places count
    entries_there = λ j. entries_in (area j) n.places (count_is j)

    batch_there : Path Batch (record { number = number; entries = entries_in b.area.items n.places count }) (record { number = number; entries = entries_of n })
    batch_there = sym (ap (λ (l : List Entry). record { number = number; entries = l }) entries_there)

    pub now_taken : HasTaken (found_in b.area.items a) a n (Some number)
    now_taken = (
      taken_in b.area.items a number count n.places batch numbered counted placed parity ∙ ap (λ (x : Batch). Some x) batch_there,
      ap batch_in area ∙ batch_is b.area.items number count n.places numbered counted placed ∙ batch_there,
      parity,
    )

    pub taken_buffer : IsBuffer n
    taken_buffer = record {
      places = places;
      few = omega (arith, ap length area, whole.few);
      count = omega (arith, ap length area, count_is, counted, (few_in b.area.items batch).1);
    }

  -- its area was read, with nothing gathered
  pub empty_buffer : length n.area.items ≡ length b.area.items → n.places ≡ b.places → n.count ≡ b.count → IsBuffer n
  empty_buffer size places count = record {
    places = ap length places ∙ whole.places;
    few = omega (arith, size, whole.few);
    count = omega (arith, size, count, whole.count);
  }

-- all that another buffer has was taken over
pub copied_buffer : {A : Type 0} (o n : Gathered A) → IsBuffer o → n.area.items ≡ o.area.items → n.places ≡ o.places → n.count ≡ o.count → IsBuffer n
copied_buffer o n whole area places count = record {
  places = ap length places ∙ whole.places;
  few = omega (arith, ap length area, whole.few);
  count = omega (arith, ap length area, count, whole.count);
}
