-- What is found in the areas of a journal as it is opened. (No public clause cites this.)
use Rattle.std.specs.Prelude.{◌≡◌, ℕ, ◌+◌, ◌%◌, ◌<◌, ◌≤◌, ◌==◌, if◌then◌else◌, true, false, List, [], ◌∷◌, Option, Some}
use Rattle.std.specs.Prelude.{None, IfSome}
use Rattle.block_device.specs.Blocks.{CrashFile}
use Rattle.block_batch.specs.Batch.{Entry, Batch, batch_in}
use Rattle.block_journal.specs.declared.shape.Shape.{Shape}
use Rattle.block_journal.specs.Layout.{found}
use Rattle.block_journal.specs.declared.gathered.Gathered.{Gathered}
use Rattle.block_journal.specs.declared.reading.Order.{Order}
use Rattle.block_journal.specs.Gathered.{entries_of}

-- the other area has a batch of a lower number, or none
abbrev pub IsBefore : ℕ → Option ℕ → List Entry → Option Batch → Type 0
IsBefore number None entries other = other ≡ None
IsBefore number (Some n) entries other = (n < number) × (other ≡ Some (record { number = n; entries = entries }))

-- the blocks that are replayed before those of the last batch: the other one's, where its number is the one before
abbrev pub first_entries : ℕ → Option ℕ → List Entry → List Entry
first_entries number None entries = []
first_entries number (Some n) entries = if n + 1 == number then entries else []

-- the batches that were found
abbrev pub found_batches : Batch → Option ℕ → List Entry → List Batch
found_batches last None entries = last ∷ []
found_batches last (Some n) entries = last ∷ record { number = n; entries = entries } ∷ []

-- One area has the last batch, and the other one what comes before it.
pub record AreFound (g : Shape) (image : CrashFile) (last : Batch) (before : Option ℕ)
    (entries : List Entry) : Type 0 where
  pub here : found g image (last.number % 2) ≡ Some last
  pub other : IsBefore last.number before entries (found g image ((last.number + 1) % 2))

-- Of the numbers of the two areas' batches the highest one is the last, and the other one's comes before it.
pub record IsOrder (first second : Option ℕ) (o : Order) : Type 0 where
  pub as_second : o.is_second ≡ true → (second ≡ Some o.number) × (o.before ≡ first)
  pub as_first : o.is_second ≡ false → (first ≡ Some o.number) × (o.before ≡ second)
  pub low : IfSome o.before (λ n. n ≤ o.number)

module _ {A : Type 0} where
  -- a buffer has what area `a` has: the batch of this number, or nothing
  abbrev pub HasTaken : Option Batch → ℕ → Gathered A → Option ℕ → Type 0
  HasTaken has a buffer None = (has ≡ None) × (buffer.count ≡ 0)
  HasTaken has a buffer (Some n) = (has ≡ Some (record { number = n; entries = entries_of buffer }))
      × (batch_in buffer.area.items ≡ record { number = n; entries = entries_of buffer })
      × (n % 2 ≡ a)

  -- One buffer has the last batch, and the other one what comes before it.
  pub record HasTakenBoth (g : Shape) (image : CrashFile) (number : ℕ) (before : Option ℕ) (last other : Gathered A)
      : Type 0 where
    pub of_last : HasTaken (found g image (number % 2)) (number % 2) last (Some number)
    pub of_other : HasTaken (found g image ((number + 1) % 2)) ((number + 1) % 2) other before
    pub low : IfSome before (λ n. n < number)
