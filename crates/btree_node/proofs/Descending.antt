-- The child that a way down goes on to, as plain data.
use Rattle.std.proofs.Common.{◌≡◌, ℕ, ◌+◌, ◌-◌, ◌<◌, ◌≤◌, length, Some, subst, arith, zero, suc}
use Rattle.std.specs.List.{slice_get}
use Rattle.std.proofs.lemmas.Option.{slice_get_within}
use Rattle.node_parts.specs.Balance.{AreTrees, IsTree}
use Rattle.node_parts.specs.Order.{IsAscending}
use Rattle.node_parts.specs.Rows.{branches}
use Rattle.node_parts.specs.Tree.{Forest, IsLeaf, Tree, branch, count, depth, entries, forest_entries, leaf, more, none, trees_of}
use Rattle.node_parts.proofs.Balance.{depth-tree}
use Rattle.node_parts.proofs.Order.{IsAscending-left, IsAscending-right}
use Rattle.btree_node.proofs.At.{not_empty}

-- a level tree that is one level lower
pub record IsBelow (t u : Tree) : Type 0 where
  pub lower : depth u + 1 ≡ depth t
  pub tree : IsTree (depth u) u
  pub some : 0 < length (entries u)
  pub ascending : IsAscending (entries u)

child_tree : (h : ℕ) (f : Forest) (k : ℕ) (u : Tree) → AreTrees h f → slice_get (trees_of f) k ≡ Some u → (16 ≤ count u) × IsTree h u
child_tree h none k u a e = absurd (omega (arith, slice_get_within (trees_of none) k u e))
child_tree h (more t f) zero u a e = let same : t ≡ u = cc in subst (λ x. (16 ≤ count x) × IsTree h x) same (a.0, a.1)
child_tree h (more t f) (suc k) u a e = child_tree h f k u a.2 e

child_ascending : (f : Forest) (k : ℕ) (u : Tree) → IsAscending (forest_entries f) → slice_get (trees_of f) k ≡ Some u → IsAscending (entries u)
child_ascending none k u a e = absurd (omega (arith, slice_get_within (trees_of none) k u e))
child_ascending (more t f) zero u a e = let same : t ≡ u = cc in subst (λ x. IsAscending (entries x)) same (IsAscending-left (entries t) (forest_entries f) a)
child_ascending (more t f) (suc k) u a e = child_ascending f k u (IsAscending-right (entries t) (forest_entries f) a) e

pub below : (t u : Tree) (k : ℕ) → IsTree (depth t) t → IsAscending (entries t) → slice_get (branches t) k ≡ Some u → IsBelow t u
below (leaf es) u k b a e = absurd (omega (arith, slice_get_within (branches (leaf es)) k u e))
below (branch f) u k b a e =
    let child : (16 ≤ count u) × IsTree (depth (branch f) - 1) u = child_tree (depth (branch f) - 1) f k u b.2 e in
    let level : depth u ≡ depth (branch f) - 1 = depth-tree (depth (branch f) - 1) u child.1 (omega (arith, child.0)) in
    record {
      lower = omega (arith, level, b.0);
      tree = rw level child.1;
      some = not_empty (depth (branch f) - 1) u child.1 child.0;
      ascending = child_ascending f k u a e;
    }

pub one_level : (t : Tree) → IsLeaf t → depth t ≡ 1
one_level (leaf es) l = omega arith
one_level (branch f) l = absurd l
