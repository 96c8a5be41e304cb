-- How many nodes an insertion splits.
use Rattle.std.specs.Prelude.{ℕ, ◌+◌, ◌==◌, ◌&&◌, Bool, true, cond, length}
use Rattle.record_values.specs.declared.pair.Pair.{Pair}
use Rattle.node_parts.specs.Place.{begins_after}
use Rattle.node_parts.specs.Tree.{Tree, Forest, leaf, branch, none, more, entries, trees_of, forest_depth}

-- a pair comes before the first entry of the first tree, or there is none
abbrev pub is_before_all : Pair → Forest → Bool
is_before_all p none = true
is_before_all p (more t f) = begins_after (entries t) p

-- the full nodes on the way of a pair, counted from its leaf up to the first one with room
abbrev mutual
  pub splits : Tree → Pair → ℕ
  splits (leaf es) p = cond (length es == 32) 1 0
  splits (branch f) p = forest_splits f p + cond ((forest_splits f p == forest_depth f) && (length (trees_of f) == 32))
      1 0

  pub forest_splits : Forest → Pair → ℕ
  forest_splits none p = 0
  forest_splits (more t f) p = cond (is_before_all p f) (splits t p) (forest_splits f p)
