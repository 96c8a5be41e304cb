-- How many entries are marked, and how many are live.
use Rattle.std.specs.Prelude.{◌≡◌, ◌≤◌, ℕ, Bool, true, false, not, filter, length, Option, Some, None}
use Rattle.std.specs.FinMap.{entries, len}
use Rattle.btree_node.specs.declared.limits.TheConstants.{ENTRIES_MAX}
use Rattle.record_values.specs.declared.pair.Pair.{Pair}
use Rattle.record_values.specs.declared.pair.Mark.{Mark}
use Rattle.record_values.specs.declared.pair.Mark.TheVariants.{Live, Marked}
use Rattle.record_values.specs.Entries.{Index}

-- whether this is the mark of a marked entry
abbrev pub is_marked : Mark → Bool
is_marked Live = false
is_marked Marked = true

-- how many entries are marked
unfoldable pub marked_in : Index → ℕ
marked_in index = length (filter (λ (e : Pair × Mark). is_marked e.1) (entries index))

-- how many are live
unfoldable pub live_in : Index → ℕ
live_in index = length (filter (λ (e : Pair × Mark). not (is_marked e.1)) (entries index))

-- how many marked entries a pair has: one or none (no public clause cites this or the next one)
abbrev pub marked_of : Option Mark → ℕ
marked_of None = 0
marked_of (Some Live) = 0
marked_of (Some Marked) = 1

-- so many of the entries are marked, and all are no more than a tree can hold
pub record IsCounted (index : Index) (marked : ℕ) : Type 0 where
  pub number : marked ≡ marked_in index
  pub most : len index ≤ ENTRIES_MAX
