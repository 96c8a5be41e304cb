-- What a node is seen as.
use Rattle.std.specs.Prelude.{◌≡◌, ◌≤◌, List, [], ◌∷◌, map, vec_len, vec_capacity, Option, Some, None}
use Rattle.node_parts.specs.Tree.{Tree, leaf, branch, forest_of, entries}
use Rattle.record_values.specs.declared.pair.Pair.{Pair}
use Rattle.node_parts.specs.declared.Entry.{Entry}
use Rattle.node_parts.specs.declared.NodeParts.{NodeParts}
use Rattle.node_parts.specs.declared.NodeParts.TheVariants.{Leaf, Inner}
use Rattle.node_parts.specs.declared.Child.{Child}

-- the tree of a node's parts
abbrev pub tree_of : {A : Type 0} → NodeParts A → Tree
tree_of (Leaf es) = leaf es.items
tree_of (Inner cs) = branch (forest_of (map (λ c. c.node.value) cs.items))

-- the least pair of ascending entries
abbrev pub least_of : List Entry → Option Pair
least_of [] = None
least_of (e ∷ es) = Some e.pair

-- each child has an entry, and its label is its least pair
abbrev pub AreLabelled : {A : Type 0} → List (Child A) → Type 0
AreLabelled [] = Unit {0}
AreLabelled (c ∷ cs) = (least_of (entries c.node.value) ≡ Some c.least) × AreLabelled cs

-- a node has at most 32 items, and room for 32; each child has its label
abbrev pub IsSoundNode : {A : Type 0} → NodeParts A → Type 0
IsSoundNode (Leaf es) = (vec_len es ≤ 32) × (32 ≤ vec_capacity es)
IsSoundNode (Inner cs) = (vec_len cs ≤ 32) × (32 ≤ vec_capacity cs) × AreLabelled cs.items
