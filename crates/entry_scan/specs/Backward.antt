-- A range that is read backward.
use Rattle.std.specs.Prelude.{Bool, List, None, Option, Some, [], filter, reverse, take, true, ℕ, ◌++◌, ◌∷◌, ◌≡◌}
use Rattle.std.specs.Ordering.{is_lt}
use Rattle.record_values.specs.Entries.{Index}
use Rattle.record_values.specs.Orders.{pair_cmp}
use Rattle.record_values.specs.declared.pair.Pair.{Pair}
use Rattle.entry_scan.specs.Visible.{next_after, visible}
use Rattle.entry_scan.specs.declared.range.KeyRange.{KeyRange}

-- whether a pair comes before this one: every pair does where there is none
abbrev pub is_before : Option Pair → Pair → Bool
is_before None p = true
is_before (Some end) p = is_lt (pair_cmp p end)

-- what is left of the range before a pair, the last pair first; all of it where none is given
abbrev pub left_before : Index → KeyRange → Option Pair → List Pair
left_before index range before = reverse (filter (is_before before) (visible index range))

-- A range is read backward before a pair until nothing is left. The index was so at each page, in turn, and the pages
-- had these pairs: the last page has all that was left, and before any other the next one goes on.
pub data ReadingBack (range : KeyRange) : Option Pair → List Index → List Pair → Type 0 where
  last : (before : Option Pair) (index : Index) → ReadingBack range before (index ∷ []) (left_before index range before)
  more : (before : Option Pair) (index : Index) (limit : ℕ) (next : Pair) (seen : List Index) (pairs : List Pair)
      → next_after before limit (left_before index range before) ≡ Some next → ReadingBack range (Some next) seen pairs
      → ReadingBack range before (index ∷ seen) (take limit (left_before index range before) ++ pairs)
