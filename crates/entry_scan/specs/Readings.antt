-- Pages that are read one after another.
use Rattle.std.specs.Prelude.{List, Option, Some, [], take, ℕ, ◌++◌, ◌∷◌, ◌≡◌}
use Rattle.record_values.specs.declared.pair.Pair.{Pair}
use Rattle.record_values.specs.Entries.{Index}
use Rattle.entry_scan.specs.Visible.{left_of, next_after}
use Rattle.entry_scan.specs.declared.range.KeyRange.{KeyRange}

-- A range is read after a pair until nothing is left. The index was so at each page, in turn, and the pages had these
-- pairs: the last page has all that was left, and after any other the next one goes on.
pub data Reading (range : KeyRange) : Option Pair → List Index → List Pair → Type 0 where
  last : (after : Option Pair) (index : Index) → Reading range after (index ∷ []) (left_of index range after)
  more : (after : Option Pair) (index : Index) (limit : ℕ) (next : Pair) (seen : List Index) (pairs : List Pair)
      → next_after after limit (left_of index range after) ≡ Some next → Reading range (Some next) seen pairs
      → Reading range after (index ∷ seen) (take limit (left_of index range after) ++ pairs)
