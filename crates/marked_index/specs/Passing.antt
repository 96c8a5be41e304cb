-- Live entries that follow one another.
use Rattle.std.specs.Prelude.{◌≡◌, ◌<◌, ℕ, not, List, [], ◌∷◌, length, Option, Some}
use Rattle.std.specs.List.{prefix_len}
use Rattle.record_values.specs.declared.pair.Mark.TheVariants.{Live}
use Rattle.record_values.specs.declared.pair.Pair.{Pair}
use Rattle.record_values.specs.Entries.{Index}
use Rattle.btree_node.specs.Above.{IsLeastAbove}
use Rattle.node_parts.specs.declared.Entry.{Entry}
use Rattle.marked_index.specs.Counts.{is_marked}

-- these live entries lead from one pair to another: each is the least entry above the one before it
abbrev pub IsLivePath : Index → Option Pair → List Pair → Option Pair → Type 0
IsLivePath index start [] end = end ≡ start
IsLivePath index start (p ∷ ps) end = IsLeastAbove index start (Some (p, Live)) × IsLivePath index (Some p) ps end

-- some live entries lead to this pair, which is the last of them
pub record IsBehindLive (index : Index) (start : Option Pair) (end : Pair) : Type 0 where
  pub passed : List Pair
  pub path : IsLivePath index start passed (Some end)
  pub some : 0 < length passed

-- the least entry above a pair, or the least of all, is live
abbrev pub IsLiveNext : Index → Option Pair → Type 0
IsLiveNext index start = (p : Pair) × IsLeastAbove index start (Some (p, Live))

-- how many live entries these begin with (no public clause cites this)
abbrev pub live_front : List Entry → ℕ
live_front es = prefix_len (λ (e : Entry). not (is_marked e.mark)) es
