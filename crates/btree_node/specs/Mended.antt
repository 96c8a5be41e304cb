-- A row of which one child has one entry or child too few.
use Rattle.std.specs.Prelude.{ℕ, ◌≡◌, ◌+◌, ◌≤◌, List, [], ◌∷◌, zero, suc, length, Option, Some, None, Box}
use Rattle.node_parts.specs.declared.Child.{Child}
use Rattle.node_parts.specs.declared.Node.{Node}
use Rattle.node_parts.specs.Tree.{Tree, leaf, branch, more, none, trees_of, forest_of, depth, count}
use Rattle.node_parts.specs.Balance.{IsTree, AreTrees}
use Rattle.node_parts.specs.Rows.{trees}

-- two nodes of one level, at most one of them one short
abbrev pub ArePair : Tree → Tree → Type 0
ArePair t u = IsTree (depth t) t × IsTree (depth t) u × (15 ≤ count t) × (15 ≤ count u) × (31 ≤ count t + count u)
    × (count t + count u ≤ 47)

-- such are the children at k and after it
abbrev pub AreNeighbours : {A : Type 0} → ℕ → List (Child A) → Type 0
AreNeighbours k [] = ⊥
AreNeighbours k (c ∷ []) = ⊥
AreNeighbours zero (c ∷ d ∷ cs) = ArePair c.node.value d.node.value
AreNeighbours (suc k) (c ∷ d ∷ cs) = AreNeighbours k (d ∷ cs)

-- trees of h levels, each but the two at k and after it at least half full
abbrev pub AreTreesBut : {A : Type 0} → ℕ → ℕ → List (Child A) → Type 0
AreTreesBut h k [] = ⊥
AreTreesBut h k (c ∷ []) = ⊥
AreTreesBut h zero (c ∷ d ∷ cs) = IsTree h c.node.value × IsTree h d.node.value × AreTrees h (forest_of (trees cs))
AreTreesBut h (suc k) (c ∷ d ∷ cs) = (16 ≤ count c.node.value) × IsTree h c.node.value × AreTreesBut h k (d ∷ cs)

-- the only child of t was taken out, or t was left as it is where there is none
abbrev pub IsTaken : {A : Type 0} → Tree → Tree → Option (Box (Node A) A) → Type 0
IsTaken (leaf es) u None = u ≡ leaf es
IsTaken (branch f) u None = (u ≡ branch f) × (length (trees_of f) ≡ 1 → ⊥)
IsTaken t u (Some child) = t ≡ branch (more child.value none)
