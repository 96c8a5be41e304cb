-- The greatest entry below a pair.
use Rattle.std.specs.Prelude.{◌≡◌, List, Option, Some, None, filter}
use Rattle.std.specs.FinMap.{FinMap, get}
use Rattle.std.specs.List.{last_or}
use Rattle.std.specs.declared.cmp.Ordering.TheVariants.{Less}
use Rattle.record_values.specs.Orders.{pair_cmp}
use Rattle.record_values.specs.declared.pair.Pair.{Pair}
use Rattle.record_values.specs.declared.pair.Mark.{Mark}
use Rattle.node_parts.specs.declared.Entry.{Entry}
use Rattle.node_parts.specs.Order.{is_below}

-- q comes before the end, and every pair does where there is none
abbrev pub IsBefore : Option Pair → Pair → Type 0
IsBefore None q = Unit {0}
IsBefore (Some end) q = pair_cmp q end ≡ Less

-- the last entry of a map before an end: no pair between has one. There is none exactly where no pair before the end
-- has an entry
abbrev pub IsGreatestBelow : FinMap pair_cmp Mark → Option Pair → Option (Pair × Mark) → Type 0
IsGreatestBelow m end None = (q : Pair) → IsBefore end q → get m q ≡ None
IsGreatestBelow m end (Some e) = IsBefore end e.0 × (get m e.0 ≡ Some e.1)
    × ((q : Pair) → IsBefore end q → pair_cmp e.0 q ≡ Less → get m q ≡ None)

-- ---- on ascending entries
-- the entries below a pair
abbrev pub all_below : List Entry → Pair → List Entry
all_below es p = filter (λ e. is_below e.pair p) es

-- the last entry below a pair, if there is one
abbrev pub last_below : List Entry → Pair → Option Entry
last_below es p = last_or None (all_below es p)
