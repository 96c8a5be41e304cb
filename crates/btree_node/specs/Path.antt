-- The way of a pair down a tree.
use Rattle.std.specs.Prelude.{ℕ, cond, List, [], ◌∷◌}
use Rattle.record_values.specs.declared.pair.Pair.{Pair}
use Rattle.node_parts.specs.Tree.{Tree, Forest, leaf, branch, none, more}
use Rattle.node_parts.specs.Place.{place_in}
use Rattle.btree_node.specs.Splits.{is_before_all}

-- the places on the way, from that in the top node down to that in the leaf
abbrev mutual
  pub path_of : Tree → Pair → List ℕ
  path_of (leaf es) p = place_in (leaf es) p ∷ []
  path_of (branch f) p = place_in (branch f) p ∷ forest_path f p

  pub forest_path : Forest → Pair → List ℕ
  forest_path none p = []
  forest_path (more t f) p = cond (is_before_all p f) (path_of t p) (forest_path f p)

-- the same in a whole tree, of which an empty one has no node
abbrev pub top_path : Tree → Pair → List ℕ
top_path (leaf []) p = []
top_path (leaf (e ∷ es)) p = path_of (leaf (e ∷ es)) p
top_path (branch f) p = path_of (branch f) p
