-- The visible pairs of an index.
use Rattle.std.specs.Prelude.{Bool, List, None, Option, Some, [], false, filter, if◌then◌else◌, length, map, nat_lt}
use Rattle.std.specs.Prelude.{take, true, ℕ, ◌&&◌, ◌∷◌}
use Rattle.std.specs.FinMap.{entries}
use Rattle.record_values.specs.declared.pair.Mark.{Mark}
use Rattle.record_values.specs.declared.pair.Mark.TheVariants.{Live, Marked}
use Rattle.record_values.specs.declared.pair.Pair.{Pair}
use Rattle.record_values.specs.Entries.{Index}
use Rattle.record_values.specs.Orders.{is_above}
use Rattle.entry_scan.specs.Ranges.{is_within}
use Rattle.entry_scan.specs.declared.range.KeyRange.{KeyRange}

-- whether this is the mark of a visible pair
abbrev pub is_live : Mark → Bool
is_live Live = true
is_live Marked = false

-- whether it is the entry of a visible pair of the range
abbrev pub is_shown : KeyRange → Pair × Mark → Bool
is_shown range e = is_live e.1 && is_within range e.0.key

-- the visible pairs of the range, in their order
abbrev pub visible : Index → KeyRange → List Pair
visible index range = map (λ e. e.0) (filter (is_shown range) (entries index))

-- what is left of the range after a pair; all of it where none is given
abbrev pub left_of : Index → KeyRange → Option Pair → List Pair
left_of index range after = filter (is_above after) (visible index range)

-- the last of these pairs, or the one before them where there is none
abbrev pub last_or : Option Pair → List Pair → Option Pair
last_or before [] = before
last_or before (p ∷ ps) = last_or (Some p) ps

-- So many pairs at most are taken of what is left: the pair after which to go on is the last of those. It is none
-- where those are all.
abbrev pub next_after : Option Pair → ℕ → List Pair → Option Pair
next_after after limit left = if nat_lt limit (length left) then last_or after (take limit left) else None
