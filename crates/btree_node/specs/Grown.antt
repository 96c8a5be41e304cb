-- What an insertion takes, and what it hands up.
use Rattle.std.specs.Prelude.{◌≡◌, ℕ, ◌<◌, ◌≤◌, ◌+◌, List, [], Option, Some, None, Box}
use Rattle.node_parts.specs.declared.Child.{Child}
use Rattle.node_parts.specs.declared.Entry.{Entry}
use Rattle.node_parts.specs.declared.Node.{Node}
use Rattle.node_parts.specs.Tree.{entries, count, an_empty_leaf}
use Rattle.node_parts.specs.Seen.{least_of}
use Rattle.node_parts.specs.Balance.{IsTree}

-- how many empty leaves and empty inner nodes are at hand
pub record Nodes : Type 0 where
  pub leaves : ℕ
  pub inners : ℕ

-- enough for n nodes that are split, the first of them a leaf
abbrev pub AreEnough : ℕ → Nodes → Type 0
AreEnough n s = (0 < n → 0 < s.leaves) × (n ≤ s.inners + 1)

-- n nodes in all, the first of them a leaf
abbrev pub AreExactly : ℕ → Nodes → Type 0
AreExactly n s = (s.leaves + s.inners ≡ n) × (0 < n → s.leaves ≡ 1)

-- the entries of a child that was split off, if there is one
abbrev pub upper_entries : {A : Type 0} → Option (Child A) → List Entry
upper_entries None = []
upper_entries (Some c) = entries c.node.value

-- the upper half of a split node of h levels, under its least pair
abbrev pub IsUpperHalf : {A : Type 0} → ℕ → Option (Child A) → Type 0
IsUpperHalf h None = Unit {0}
IsUpperHalf h (Some c) = (16 ≤ count c.node.value) × IsTree h c.node.value
    × (least_of (entries c.node.value) ≡ Some c.least)

-- what stays of a node with n entries or children: no fewer, or at least half a node if it was split
abbrev pub KeepsCount : {A : Type 0} → ℕ → ℕ → Option (Child A) → Type 0
KeepsCount n m None = n ≤ m
KeepsCount n m (Some c) = 16 ≤ m

-- a node of h levels is split only with all the nodes on the way below it, each into a spare one
abbrev pub IsSplitAlong : {A : Type 0} → ℕ → ℕ → Nodes → Nodes → Option (Child A) → Type 0
IsSplitAlong n h before after None = Unit {0}
IsSplitAlong n h before after (Some c) = (n ≡ h) × (before.inners + 1 ≤ after.inners + h)

-- how many leaves are kept spare: one or none
abbrev pub leaves_in : {A : Type 0} → Option (Box (Node A) A) → ℕ
leaves_in None = 0
leaves_in (Some b) = 1

-- a spare leaf is empty
abbrev pub IsSpareLeaf : {A : Type 0} → Option (Box (Node A) A) → Type 0
IsSpareLeaf None = Unit {0}
IsSpareLeaf (Some b) = b.value ≡ an_empty_leaf
