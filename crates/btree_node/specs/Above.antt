-- The least entry above a pair.
use Rattle.std.specs.Prelude.{◌≡◌, List, [], ◌∷◌, Option, Some, None, cond}
use Rattle.std.specs.FinMap.{FinMap, get}
use Rattle.std.specs.declared.cmp.Ordering.TheVariants.{Less}
use Rattle.record_values.specs.Orders.{pair_cmp}
use Rattle.record_values.specs.declared.pair.Pair.{Pair}
use Rattle.record_values.specs.declared.pair.Mark.{Mark}
use Rattle.node_parts.specs.declared.Entry.{Entry}
use Rattle.node_parts.specs.Order.{is_below}

-- q comes after the start, and every pair does where there is none
abbrev pub IsAfter : Option Pair → Pair → Type 0
IsAfter None q = Unit {0}
IsAfter (Some start) q = pair_cmp start q ≡ Less

-- the first entry of a map after a start: no pair between has one. There is none exactly where no pair after the start
-- has an entry
abbrev pub IsLeastAbove : FinMap pair_cmp Mark → Option Pair → Option (Pair × Mark) → Type 0
IsLeastAbove m start None = (q : Pair) → IsAfter start q → get m q ≡ None
IsLeastAbove m start (Some e) = IsAfter start e.0 × (get m e.0 ≡ Some e.1)
    × ((q : Pair) → IsAfter start q → pair_cmp q e.0 ≡ Less → get m q ≡ None)

-- ---- on ascending entries
-- the first entry, if there is one
abbrev pub first_of : List Entry → Option Entry
first_of [] = None
first_of (e ∷ es) = Some e

-- the first entry above a pair, if there is one
abbrev pub first_above : List Entry → Pair → Option Entry
first_above [] p = None
first_above (e ∷ es) p = cond (is_below p e.pair) (Some e) (first_above es p)
