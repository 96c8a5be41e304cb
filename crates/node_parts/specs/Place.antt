-- Where a pair belongs in a node.
use Rattle.std.specs.Prelude.{ℕ, ◌-◌, Bool, false, not, List, [], ◌∷◌}
use Rattle.std.specs.List.{prefix_len}
use Rattle.record_values.specs.declared.pair.Pair.{Pair}
use Rattle.node_parts.specs.declared.Entry.{Entry}
use Rattle.node_parts.specs.Order.{is_below}
use Rattle.node_parts.specs.Tree.{Tree, leaf, branch, entries, trees_of}

-- the first entry comes after a pair
abbrev pub begins_after : List Entry → Pair → Bool
begins_after [] p = false
begins_after (e ∷ es) p = is_below p e.pair

-- in a leaf how many entries come before a pair, in an inner node the place of the last child that does not begin after
-- it, or of the first
abbrev pub place_in : Tree → Pair → ℕ
place_in (leaf es) p = prefix_len (λ e. is_below e.pair p) es
place_in (branch f) p = prefix_len (λ t. not (begins_after (entries t) p)) (trees_of f) - 1
