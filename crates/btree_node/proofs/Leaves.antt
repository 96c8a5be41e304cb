-- The place of an entry in a leaf.
use Rattle.std.proofs.Common.{◌≡◌, ℕ, ◌<◌, ◌≤◌, List, get_or, sym, ap, ◌∙◌, arith}
use Rattle.std.specs.Prelude.{IsSome}
use Rattle.std.specs.List.{insert, remove}
use Rattle.std.proofs.Math.ListN.{set}
use Rattle.record_values.specs.declared.pair.Mark.{Mark}
use Rattle.record_values.specs.declared.pair.Pair.{Pair}
use Rattle.node_parts.specs.declared.Entry.{Entry}
use Rattle.node_parts.specs.Order.{is_below, insert_entry, mark_in, with_mark, IsAscending}
use Rattle.node_parts.specs.Tree.{Tree, leaf, branch, entries, count, IsLeaf}
use Rattle.node_parts.specs.Place.{place_in}
use Rattle.node_parts.proofs.Order.{insert-at_place}
use Rattle.btree_node.specs.Without.{without}
use Rattle.btree_node.proofs.At.{prefix_len-upto}
use Rattle.btree_node.proofs.Remove.{stands, stands_parts}
use Rattle.btree_node.proofs.Found.{place_of, marked}

pub leaf_place : (t : Tree) (p : Pair) (k : ℕ) → IsLeaf t → k ≡ place_in t p → k ≤ count t
leaf_place (leaf es) p k l e = omega (arith, e, prefix_len-upto (λ x. is_below x.pair p) es)
leaf_place (branch f) p k l e = absurd l

pub leaf_insert : (t : Tree) (e : Entry) (k : ℕ) → IsLeaf t → k ≡ place_in t e.pair → insert (entries t) k e ≡ insert_entry (entries t) e
leaf_insert (leaf es) e k l f = ap (λ n. insert es n e) f ∙ insert-at_place es e
leaf_insert (branch f) e k l g = absurd l

-- a pair that is present stands at its place
pub leaf_stands : (t : Tree) (p : Pair) (k : ℕ) → IsLeaf t → k ≡ place_in t p → IsAscending (entries t) → IsSome (mark_in (entries t) p) → (k < count t)
    × (remove (entries t) k ≡ without (entries t) p)
leaf_stands (leaf es) p k l e a s =
    let here = stands_parts es p _ (stands es p a s) in
    rw e (here.0, here.1)
leaf_stands (branch f) p k l e a s = absurd l

pub leaf_marked : (t : Tree) (es : List Entry) (p : Pair) (m : Mark) (e : Entry) (k : ℕ) → t ≡ leaf es → k ≡ place_in t p → IsAscending (entries t)
    → IsSome (mark_in (entries t) p) → e ≡ get_or es k e → set es k (record { pair = e.pair; mark = m }) ≡ with_mark (entries t) p m
leaf_marked t es p m e k seen place a s here =
    let at_place : k ≡ place_of es p = place ∙ ap (λ u. place_in u p) seen in
    let a' : IsAscending es = rw seen at a in
    let s' : IsSome (mark_in es p) = rw seen at s in
    let here' : e ≡ get_or es (place_of es p) e = rw at_place at here in
    ap (λ n. set es n (record { pair = e.pair; mark = m })) at_place ∙ marked es p m e a' s' here' ∙ ap (λ u. with_mark (entries u) p m) (sym seen)
