-- Entries that follow one another.
use Rattle.std.specs.Prelude.{◌≡◌, List, [], ◌∷◌, ◌++◌, Option, Some, cond}
use Rattle.std.specs.FinMap.{FinMap}
use Rattle.record_values.specs.Orders.{pair_cmp}
use Rattle.record_values.specs.declared.pair.Pair.{Pair}
use Rattle.record_values.specs.declared.pair.Mark.{Mark}
use Rattle.node_parts.specs.declared.Entry.{Entry}
use Rattle.node_parts.specs.Order.{is_below}
use Rattle.btree_node.specs.Above.{IsLeastAbove}

-- the first of these is the least entry of a map above a start, and each further one the least above the one before
abbrev pub IsRunAbove : FinMap pair_cmp Mark → Option Pair → List Entry → Type 0
IsRunAbove m start [] = Unit {0}
IsRunAbove m start (e ∷ es) = IsLeastAbove m start (Some (e.pair, e.mark)) × IsRunAbove m (Some e.pair) es

-- ---- on ascending entries
-- the entries above a pair
abbrev pub all_above : List Entry → Pair → List Entry
all_above [] p = []
all_above (e ∷ es) p = cond (is_below p e.pair) (e ∷ es) (all_above es p)

-- what some entries begin with; there is none of it only where there are no entries
pub record IsFront (all front : List Entry) : Type 0 where
  pub rest : List Entry
  pub whole : all ≡ front ++ rest
  pub none : front ≡ [] → all ≡ []
