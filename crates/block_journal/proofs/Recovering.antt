-- A journal is opened: from what its buffers have taken to what it is then.
use Rattle.std.proofs.Common.{◌≡◌, ◌≢◌, ◌⊎◌, inl, inr, ⊎_elim, ℕ, ◌+◌, ◌%◌, ◌<◌, ◌≤◌, Bool, true, false, List, Option, Some, None, IfSome, refl, sym}
use Rattle.std.proofs.Common.{◌∙◌, ap, subst, arith}
use Rattle.std.proofs.lemmas.Bool.{cases_Bool, cases_eq}
use Rattle.block_device.specs.Blocks.{CrashFile}
use Rattle.block_device.specs.BlocksPast.{BlocksPast, RunsWithin, WrittenBack, and_back}
use Rattle.block_device.proofs.Within.{within_start}
use Rattle.block_batch.specs.Batch.{Entry, Batch, batch_in, IsPlace}
use Rattle.block_journal.specs.declared.shape.Shape.{Shape}
use Rattle.block_journal.specs.declared.gathered.Gathered.{Gathered}
use Rattle.block_journal.specs.Layout.{IsInside, area_start, found}
use Rattle.block_journal.specs.Journal.{BeginsBack, InRunOrKept, IsPending, OnlyReads, StaysRecovered, WritesBackFirst, areas_back, pending_in}
use Rattle.block_journal.specs.Gathered.{entries_of}
use Rattle.block_journal.specs.declared.reading.Order.{Order}
use Rattle.block_journal.specs.Opening.{AreFound, HasTaken, HasTakenBoth, IsBefore, IsOrder, first_entries}
use Rattle.block_journal.proofs.Entries.{place_left}
use Rattle.block_journal.proofs.Opening.{pending_is, recovered_stays, wider}

module _ {A : Type 0} where
  is_before : (number : ℕ) (before : Option ℕ) (has : Option Batch) (a : ℕ) (other : Gathered A) → IfSome before (λ n. n < number)
      → HasTaken has a other before → IsBefore number before (entries_of other) has
  is_before number None has a other low taken = taken.0
  is_before number (Some n) has a other low taken = (low, taken.0)

  pub its_batch : (before : Option ℕ) (has : Option Batch) (a : ℕ) (other : Gathered A) → HasTaken has a other before
      → IfSome before (λ n. batch_in other.area.items ≡ record { number = n; entries = entries_of other })
  its_batch None has a other taken = tt
  its_batch (Some n) has a other taken = taken.1

  -- a batch of the other area has another number
  strictly : (before : Option ℕ) (has : Option Batch) (number a : ℕ) (other : Gathered A) → number % 2 ≢ a → IfSome before (λ n. n ≤ number)
      → HasTaken has a other before → IfSome before (λ n. n < number)
  strictly None has number a other apart low taken = tt
  strictly (Some n) has number a other apart low taken = ⊎_elim
      (λ same. absurd (apart (sym (ap (λ (m : ℕ). m % 2) same) ∙ taken.2)))
      (λ less. omega (arith, low, less))
      (cases_eq n number)

  -- what the areas have, with the last batch first
  module _ (g : Shape) (image : CrashFile) (number : ℕ) (before : Option ℕ) (last other : Gathered A) where
    arranged : (a b : ℕ) → b ≡ (a + 1) % 2 → a < 2 → b < 2 → IfSome before (λ n. n ≤ number) → HasTaken (found g image a) a last (Some number)
        → HasTaken (found g image b) b other before → HasTakenBoth g image number before last other
    arranged a b next low_a low_b low of_last of_other =
        let here : a ≡ number % 2 = sym of_last.2 in
        let there : b ≡ (number + 1) % 2 = omega (arith, here, next, low_a, low_b) in
        record {
          of_last = subst (λ (k : ℕ). HasTaken (found g image k) k last (Some number)) here of_last;
          of_other = subst (λ (k : ℕ). HasTaken (found g image k) k other before) there of_other;
          low = strictly before (found g image b) number b other (omega (arith, here, next, low_a, low_b)) low of_other;
        }

  pub both_taken : (g : Shape) (image : CrashFile) (o : Order) (first second : Option ℕ) → IsOrder first second o → (l0 o0 l1 o1 : Gathered A)
      → HasTaken (found g image 0) 0 l0 first → HasTaken (found g image 1) 1 o0 second → (o.is_second ≡ true → (l1 ≡ o0) × (o1 ≡ l0))
      → (o.is_second ≡ false → (l1 ≡ l0) × (o1 ≡ o0)) → HasTakenBoth g image o.number o.before l1 o1
  both_taken g image o first second order l0 o0 l1 o1 has_first has_second swaps stays = ⊎_elim
      (λ is. let numbers = order.as_second is in
      let moved = swaps is in
      arranged g image o.number o.before l1 o1 1 0 refl (omega arith) (omega arith) order.low
      (subst (λ (x : Option ℕ). HasTaken (found g image 1) 1 l1 x) numbers.0
      (subst (λ (x : Gathered A). HasTaken (found g image 1) 1 x second) (sym moved.0) has_second))
      (subst (λ (x : Option ℕ). HasTaken (found g image 0) 0 o1 x) (sym numbers.1)
      (subst (λ (x : Gathered A). HasTaken (found g image 0) 0 x first) (sym moved.1) has_first)))
      (λ is. let numbers = order.as_first is in
      let moved = stays is in
      arranged g image o.number o.before l1 o1 0 1 refl (omega arith) (omega arith) order.low
      (subst (λ (x : Option ℕ). HasTaken (found g image 0) 0 l1 x) numbers.0
      (subst (λ (x : Gathered A). HasTaken (found g image 0) 0 x first) (sym moved.0) has_first))
      (subst (λ (x : Option ℕ). HasTaken (found g image 1) 1 o1 x) (sym numbers.1)
      (subst (λ (x : Gathered A). HasTaken (found g image 1) 1 x second) (sym moved.1) has_second)))
      (cases_Bool o.is_second)

  -- what both buffers have, both have after that
  pub either_way : (P : Gathered A → Type 0) (second : Bool) (l0 o0 l1 o1 : Gathered A) → P l0 → P o0 → (second ≡ true → (l1 ≡ o0) × (o1 ≡ l0))
      → (second ≡ false → (l1 ≡ l0) × (o1 ≡ o0)) → P l1 × P o1
  either_way P second l0 o0 l1 o1 of_last of_other swaps stays = ⊎_elim
      (λ is. (subst P (sym (swaps is).0) of_other, subst P (sym (swaps is).1) of_last))
      (λ is. (subst P (sym (stays is).0) of_last, subst P (sym (stays is).1) of_other))
      (cases_Bool second)

  module _ (g : Shape) (image : CrashFile) (number : ℕ) (before : Option ℕ) (last other : Gathered A)
      (taken : HasTakenBoth g image number before last other) where
    pub are_found : AreFound g image (record { number = number; entries = entries_of last }) before (entries_of other)
    are_found = record {
      here = taken.of_last.0;
      other = is_before number before (found g image ((number + 1) % 2)) ((number + 1) % 2) other taken.low taken.of_other;
    }

    -- the blocks that come before the last batch are replayed
    pub first_places : (place : ℕ) → IsPlace (first_entries number before (entries_of other)) place
        → IsPlace (pending_in g image) place
    first_places place there = subst (λ (l : List Entry). IsPlace l place)
        (sym (pending_is g image (record { number = number; entries = entries_of last }) before (entries_of other) are_found))
        (place_left (first_entries number before (entries_of other)) (entries_of last) place there)

module _ (g : Shape) (old : BlocksPast) where
  abbrev pub all : List Entry
  all = pending_in g old.file.content

  pub within_pending : ((n : ℕ) → ¬ IsPending g old.file.content n → old.file.loose n ≡ false)
      → RunsWithin (InRunOrKept g 0 0 all) old.file.content old old
  within_pending synced = within_start (InRunOrKept g 0 0 all) old.file.content old (record {
    content = record { size = refl; same = λ n out. refl };
    synced = λ n out. synced n (λ there. out (inr there));
  })

  pub stays_recovered : (new : BlocksPast) → IsInside g old.file.content → RunsWithin (InRunOrKept g 0 0 all) old.file.content old new
      → StaysRecovered g old new
  stays_recovered new inside within = record {
    later = within.run.later;
    kept = within.run.kept;
    each = λ t c from to crash. recovered_stays g old.file.content c inside
        (wider (InRunOrKept g 0 0 all) (IsPending g old.file.content) old.file.content c
        (λ n there. ⊎_elim (λ run. absurd (omega (arith, run.0, run.1))) (λ kept. kept) there)
        (within.run.each t c from to crash));
  }

-- the areas were read, and then written back
module _ {A : Type 0} where
  is_lower : (earlier : Option ℕ) (has : Option Batch) (number a : ℕ) (other : Gathered A) → HasTaken has a other earlier
      → IfSome earlier (λ n. n < number) → IfSome has (λ x. x.number < number)
  is_lower None has number a other taken low = subst (λ (o : Option Batch). IfSome o (λ x. x.number < number)) (sym taken.0) tt
  is_lower (Some n) has number a other taken low = subst (λ (o : Option Batch). IfSome o (λ x. x.number < number)) (sym taken.0) low

  pub begins_back : (g : Shape) (old mid : BlocksPast) (number : ℕ) (earlier : Option ℕ) (last other : Gathered A) (before now : List WrittenBack)
      → HasTakenBoth g old.file.content number earlier last other → OnlyReads old mid
      → (now ≡ before) ⊎ (now ≡ and_back before (area_start g ((number + 1) % 2)) g.area mid.moment) → BeginsBack g old mid before now
  begins_back g old mid number earlier last other before now taken reads back = record {
    reads = reads;
    back = ⊎_elim (λ none. inl none) (λ one. inr (record {
      last = record { number = number; entries = entries_of last };
      here = taken.of_last.0;
      other = is_lower earlier (found g old.file.content ((number + 1) % 2)) number ((number + 1) % 2) other taken.of_other taken.low;
      moment = mid.moment;
      later = reads.time.later;
      until = omega arith;
      back = one;
    })) back;
  }

  pub writes_back_first : (g : Shape) (old mid : BlocksPast) (number : ℕ) (earlier : Option ℕ) (last other : Gathered A) (before now : List WrittenBack)
      → HasTakenBoth g old.file.content number earlier last other → OnlyReads old mid → now ≡ areas_back g number mid.moment before
      → WritesBackFirst g old mid before now
  writes_back_first g old mid number earlier last other before now taken reads back = record {
    last = record { number = number; entries = entries_of last };
    here = taken.of_last.0;
    other = is_lower earlier (found g old.file.content ((number + 1) % 2)) number ((number + 1) % 2) other taken.of_other taken.low;
    moment = mid.moment;
    later = reads.time.later;
    until = omega arith;
    still = λ t from to. ⊎_elim (λ is. is) (λ is. is ∙ reads.file) (reads.time.during t from to);
    back = back;
  }

-- the same behind what is read, at a moment that is the same
pub one_back : (g : Shape) (number : ℕ) (before mid now : List WrittenBack) {m n : ℕ} → m ≡ n → mid ≡ before
    → (now ≡ mid) ⊎ (now ≡ and_back mid (area_start g ((number + 1) % 2)) g.area m)
    → (now ≡ before) ⊎ (now ≡ and_back before (area_start g ((number + 1) % 2)) g.area n)
one_back g number before mid now same is back = ⊎_elim (λ none. inl (none ∙ is))
    (λ one. inr (one ∙ (λ i. and_back (is i) (area_start g ((number + 1) % 2)) g.area (same i)))) back
