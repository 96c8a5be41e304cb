-- A whole tree, and what an insertion into it takes.
use Rattle.btree_node.specs.declared.limits.TheConstants.{ENTRIES_MAX}
use Rattle.std.specs.Prelude.{◌≡◌, ℕ, ◌+◌, ◌≤◌, ◌==◌, cond, [], ◌∷◌, length, Option, Some, None, Box}
use Rattle.node_parts.specs.declared.Node.{Node}
use Rattle.record_values.specs.declared.pair.Pair.{Pair}
use Rattle.node_parts.specs.Tree.{Tree, leaf, branch, entries, depth}
use Rattle.node_parts.specs.Balance.{IsRoot}
use Rattle.node_parts.specs.Order.{IsAscending}
use Rattle.btree_node.specs.Splits.{splits}

-- the tree at a root; an empty tree has no node
abbrev pub tree_at : {A : Type 0} → Option (Box (Node A) A) → Tree
tree_at None = leaf []
tree_at (Some root) = root.value

-- an empty tree, or a root with what a root has to keep
abbrev pub IsWholeTree : {A : Type 0} → Option (Box (Node A) A) → Type 0
IsWholeTree None = Unit {0}
IsWholeTree (Some root) = IsRoot (depth root.value) root.value

-- what a tree keeps of its root and its number of entries
pub record IsSoundTop {A : Type 0} (root : Option (Box (Node A) A)) (len : ℕ) : Type 0 where
  pub ascending : IsAscending (entries (tree_at root))
  pub whole : IsWholeTree root
  pub counted : len ≡ length (entries (tree_at root))
  pub few : len ≤ ENTRIES_MAX

-- how many levels a whole tree has
abbrev pub height_of : Tree → ℕ
height_of (leaf []) = 0
height_of (leaf (e ∷ es)) = 1
height_of (branch f) = depth (branch f)

-- how many nodes the insertion of a pair takes: the first leaf, or one for each split and a new root above a root that
-- is split
abbrev pub nodes_for : Tree → Pair → ℕ
nodes_for (leaf []) p = 1
nodes_for (leaf (e ∷ es)) p = splits (leaf (e ∷ es)) p + cond (splits (leaf (e ∷ es)) p == 1) 1 0
nodes_for (branch f) p = splits (branch f) p + cond (splits (branch f) p == depth (branch f)) 1 0
