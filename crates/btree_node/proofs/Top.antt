-- Lemmas on whole trees.
use Rattle.std.proofs.Common.{◌≡◌, ℕ, ◌+◌, ◌-◌, ◌<◌, ◌≤◌, [], ◌∷◌, length, refl, sym, arith, cond, ◌==◌, Bool, length-append}
use Rattle.node_parts.specs.Tree.{Tree, leaf, branch, none, more, entries, forest_entries, count, depth, trees_of}
use Rattle.node_parts.specs.Balance.{IsTree, IsRoot}
use Rattle.record_values.specs.declared.pair.Pair.{Pair}
use Rattle.node_parts.proofs.Balance.{depth-tree}
use Rattle.btree_node.specs.Splits.{splits}
use Rattle.btree_node.specs.Top.{nodes_for}
use Rattle.btree_node.specs.Path.{path_of, top_path}
use Rattle.btree_node.proofs.At.{not_empty}

pub root_some : (h : ℕ) (t : Tree) → IsRoot h t → 0 < length (entries t)
root_some h (leaf es) b = omega (arith, b.1)
root_some h (branch none) b = let two : 2 ≤ 0 = b.1 in absurd (omega arith)
root_some h (branch (more t f)) b = let s : 0 < length (entries t) = not_empty (h - 1) t b.0.2.1 b.0.2.0 in
    omega (arith, s, length-append (entries t) (forest_entries f))

pub root_depth : (h : ℕ) (t : Tree) → IsRoot h t → depth t ≡ h
root_depth h (leaf es) b = sym b.0.0
root_depth h (branch f) b = depth-tree h (branch f) b.0 (let two : 2 ≤ length (trees_of f) = b.1 in omega arith)

-- a root with as many entries or children
pub root_kept : (h : ℕ) (t u : Tree) → IsRoot h t → IsTree h u → count t ≤ count u → IsRoot h u
root_kept h (leaf es) (leaf fs) b v c = (v, omega (arith, b.1, c))
root_kept h (leaf es) (branch g) b v c = let one : h ≡ 1 = b.0.0 in absurd (omega (arith, v.0))
root_kept h (branch f) (leaf fs) b v c = let one : h ≡ 1 = v.0 in absurd (omega (arith, b.0.0))
root_kept h (branch f) (branch g) b v c = (v, omega (arith, b.1, c))

-- after an insertion below a root
pub depth_kept : (t u : Tree) → IsTree (depth t) u → 16 ≤ count u → depth u ≡ depth t
depth_kept t u b c = depth-tree (depth t) u b (omega (arith, c))

pub same_depth : (t u : Tree) → IsTree (depth t) u → 16 ≤ count u → IsTree (depth u) u
same_depth t u b c = rw (depth_kept t u b c) b

pub root_own : (h : ℕ) (t : Tree) → IsRoot h t → IsRoot (depth t) t
root_own h t b = rw (root_depth h t b) b

pub root_again : (t u : Tree) → IsRoot (depth t) t → IsTree (depth t) u → count t ≤ count u → IsRoot (depth u) u
root_again t u b v c = root_own (depth t) u (root_kept (depth t) t u b v c)

-- what a walk down the path counts
pub nodes_counted : (t : Tree) (p : Pair) (b : Bool) → 0 < length (entries t) → b ≡ (splits t p == depth t) → splits t p + cond b 1 0 ≡ nodes_for t p
nodes_counted (leaf []) p b h e = absurd (omega arith)
nodes_counted (leaf (x ∷ es)) p b h e = rw e refl
nodes_counted (branch f) p b h e = rw e refl

-- after a removal below a root
pub tree_again : (t u : Tree) → IsRoot (depth t) t → IsTree (depth t) u → count t ≤ count u + 1 → IsTree (depth u) u
tree_again t (leaf es) r b c = (refl, b.1)
tree_again (leaf es) (branch f) r b c = absurd (omega (arith, b.0))
tree_again (branch g) (branch f) r b c =
    let two : 2 ≤ length (trees_of g) = r.1 in
    let some : 0 < length (trees_of f) = omega (arith, two, c) in
    rw (depth-tree (depth (branch g)) (branch f) b some) b

-- the path in a tree that is not empty
pub top_path-some : (t : Tree) (p : Pair) → 0 < length (entries t) → top_path t p ≡ path_of t p
top_path-some (leaf []) p h = absurd (omega arith)
top_path-some (leaf (e ∷ es)) p h = refl
top_path-some (branch f) p h = refl

pub root_deep : (t : Tree) → 0 < depth t
root_deep (leaf es) = omega arith
root_deep (branch f) = omega arith
