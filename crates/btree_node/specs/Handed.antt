-- A full leaf that hands entries to its left neighbour.
use Rattle.std.specs.Prelude.{◌≡◌, ℕ, ◌≤◌, ◌==◌, ◌&&◌, ◌||◌, Bool, false, cond, nat_le, zero, suc, List, [], ◌∷◌}
use Rattle.std.specs.Prelude.{length}
use Rattle.record_values.specs.declared.pair.Pair.{Pair}
use Rattle.node_parts.specs.declared.Child.{Child}
use Rattle.node_parts.specs.Place.{place_in}
use Rattle.node_parts.specs.Rows.{trees}
use Rattle.node_parts.specs.Tree.{Tree, Forest, leaf, branch, none, more, forest_of, count, IsLeaf}
use Rattle.btree_node.specs.Splits.{splits, is_before_all}

-- ---- two children of a row (no public clause cites these)
-- the second child is a full leaf, and the first no more than half full
abbrev pub CanHand : {A : Type 0} → Child A → Child A → Type 0
CanHand left full = IsLeaf full.node.value × (count full.node.value ≡ 32) × (count left.node.value ≤ 16)

-- the node over these children
abbrev pub parent : {A : Type 0} → List (Child A) → Tree
parent cs = branch (forest_of (trees cs))

-- a pair that belongs to the child at k of the one row has room in the other
abbrev pub HasRoomAt : {A : Type 0} → ℕ → List (Child A) → List (Child A) → Type 0
HasRoomAt k cs ds = (p : Pair) → k ≡ place_in (parent cs) p → splits (parent ds) p ≡ 0

-- ---- whether room can be made
-- whether the second tree is a full leaf, and the first no more than half full
abbrev pub can_hand : Tree → Tree → Bool
can_hand t (leaf es) = (length es == 32) && nat_le (count t) 16
can_hand t (branch f) = false

-- whether the tree of a row where a pair belongs can hand entries to the one before it
abbrev pub can_hand_in : Forest → Pair → Bool
can_hand_in none p = false
can_hand_in (more t none) p = false
can_hand_in (more t (more u f)) p = cond (is_before_all p (more u f)) false
    (cond (is_before_all p f) (can_hand t u) (can_hand_in (more u f) p))

-- whether the leaf where a pair belongs can hand entries to the one before it, under the same node
abbrev mutual
  pub can_make_room : Tree → Pair → Bool
  can_make_room (leaf es) p = false
  can_make_room (branch f) p = can_hand_in f p || can_below f p

  pub can_below : Forest → Pair → Bool
  can_below none p = false
  can_below (more t f) p = cond (is_before_all p f) (can_make_room t p) (can_below f p)

-- whether the child at k can hand entries to the one before it (no public clause cites this)
abbrev pub can_hand_at : {A : Type 0} → ℕ → List (Child A) → Bool
can_hand_at k [] = false
can_hand_at k (c ∷ []) = false
can_hand_at zero (c ∷ d ∷ cs) = false
can_hand_at (suc zero) (c ∷ d ∷ cs) = can_hand c.node.value d.node.value
can_hand_at (suc (suc k)) (c ∷ d ∷ cs) = can_hand_at (suc k) (d ∷ cs)
