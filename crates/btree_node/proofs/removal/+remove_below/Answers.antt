use Rattle.std.proofs.Common.{rules, arith, ℕ, ◌∙◌, sym, ap, ◌<◌, ◌≤◌, length}
use Rattle.std.proofs.Math.ListN.{set, length-set}
use Rattle.std.specs.List.{remove}
use Rattle.std.specs.Box.{with_value}
use Rattle.node_parts.specs.Tree.{entries, depth, count}
use Rattle.node_parts.proofs.Children.{sound_inner}
use Rattle.btree_node.proofs.Top.{root_some}
use Rattle.btree_node.proofs.Leaves.{leaf_stands}
use Rattle.btree_node.proofs.Remove.{child_present, child_root, IsLess, less_entries, less_labelled, less_trees, less_some, row_tree, row_count, two_children}
use Rattle.btree_node.proofs.Remove.{short}
use Rattle.btree_node.proofs.At as at
use Rattle.btree_node.proofs.At.{IsAt, at_child, at_range}
use Rattle.btree_node.proofs.removal.+remove_below.Given.{Over}
use Rattle.btree_node.proofs.removal.+remove_below.Goals.{After-deref_mut, After-least-child}
use Rattle.btree_node.proofs.removal.+remove_below.Goals as goal

-- the child where the pair belongs
here : (g : Over) (t : ℕ) (c : After-deref_mut g t)
    → IsAt c.args.node.now c.deref_mut.result.now c.in-Inner.row.items c.place-at.result c.index_mut-child.result.now c.args.pair.now
here g t c =
    let filled = root_some _ _ c.requires.root in
    at_child _ _ _ _ _ c.index_mut-child.result.now _ c.node.view_is c.in-Inner.is c.node.invariant c.requires.ascending filled c.requires.root.0
    c.place-at.ensures c.index_mut-child.ensures.value c.deref_mut.ensures.value

-- the child without the pair, under its own label
less : (g : Over) (t : ℕ) (c : After-least-child g t)
    → IsLess c.deref_mut.result.now (record { least = c.least-child.result; node = with_value c.index_mut-child.result.now.node c.remove_below.new.node })
    c.args.pair.now
less g t c =
    let e = c.remove_below.ensures in
    record { entries_are = e.entries; label = rw c.deref.ensures at c.least-child.ensures.least; level = e.tree; count_is = e.count }

pub remove_at-requires-clause-in_range : goal.remove_at-requires-clause-in_range
remove_at-requires-clause-in_range g t c =
    let here = leaf_stands _ _ _ (rw (sym c.node.view_is) (rw c.in_default.is tt)) c.place-at.ensures c.requires.ascending c.requires.present in
    rw c.node.view_is here.0

pub returns-in_default-clause-entries : goal.returns-in_default-clause-entries
returns-in_default-clause-entries g t c =
    let here = leaf_stands _ _ _ (rw (sym c.node.view_is) (rw c.in_default.is tt)) c.place-at.ensures c.requires.ascending c.requires.present in
    ap entries c.remove_at.ensures ∙ ap (λ t. remove (entries t) c.place-at.result) c.node.view_is ∙ here.1

pub index_mut-child-requires : goal.index_mut-child-requires
index_mut-child-requires g t c =
    let filled = root_some _ _ c.requires.root in
    let o = c.in-Inner.row.ok.0 in
    omega (arith, o, at_range _ _ _ _ _ c.node.view_is c.in-Inner.is c.node.invariant filled c.place-at.ensures)

pub remove_below-requires : goal.remove_below-requires
remove_below-requires g t c κs within =
    let a = here g t (goal.at.remove_below-requires g t c).After-deref_mut in
    let lower : depth c.deref_mut.result.now < depth c.args.node.now = at.lower a in
    (search (rules, lower), (search rules, (at.ascending a, (child_root a, child_present a c.requires.present))))

pub least-child-requires : goal.least-child-requires
least-child-requires g t c =
    let a = here g t (goal.at.least-child-requires g t c).After-deref_mut in
    let e = c.remove_below.ensures in
    let some : 0 < length (entries c.remove_below.new.node) = less_some _ _ e.tree e.count (at.child_level a).0 in
    record { some = rw c.deref.ensures some }

pub mend-requires-clause-in_range : goal.mend-requires-clause-in_range
mend-requires-clause-in_range g t c =
    let a = here g t (goal.at.mend-requires-clause-in_range g t c).After-deref_mut in
    let n = less g t (goal.at.mend-requires-clause-in_range g t c).After-least-child in
    let small : count c.remove_below.new.node < 16 = omega (arith, c.if-count-lt-LEAST.true, c.count.ensures.count, ap count c.deref-2.ensures) in
    let s = short c.saturating_sub.result a n small c.requires.root.1 c.saturating_sub.ensures in
    let o = c.in-Inner.row.ok.0 in
    omega (
      arith,
      o,
      two_children a c.requires.root.1,
      a.in_range,
      c.saturating_sub.ensures,
      length-set c.in-Inner.row.items c.place-at.result (record {
        least = c.least-child.result;
        node = with_value c.index_mut-child.result.now.node c.remove_below.new.node;
      }),
    )

pub mend-requires-clause-labelled : goal.mend-requires-clause-labelled
mend-requires-clause-labelled g t c =
    let a = here g t (goal.at.mend-requires-clause-labelled g t c).After-deref_mut in
    let n = less g t (goal.at.mend-requires-clause-labelled g t c).After-least-child in
    less_labelled a n

pub mend-requires-clause-neighbours : goal.mend-requires-clause-neighbours
mend-requires-clause-neighbours g t c =
    let a = here g t (goal.at.mend-requires-clause-neighbours g t c).After-deref_mut in
    let n = less g t (goal.at.mend-requires-clause-neighbours g t c).After-least-child in
    let small : count c.remove_below.new.node < 16 = omega (arith, c.if-count-lt-LEAST.true, c.count.ensures.count, ap count c.deref-2.ensures) in
    let s = short c.saturating_sub.result a n small c.requires.root.1 c.saturating_sub.ensures in
    s.0

pub invariant_of-node-else-count-lt-LEAST : goal.invariant_of-node-else-count-lt-LEAST
invariant_of-node-else-count-lt-LEAST g t c =
    let a = here g t (goal.at.invariant_of-node-else-count-lt-LEAST g t c).After-deref_mut in
    let n = less g t (goal.at.invariant_of-node-else-count-lt-LEAST g t c).After-least-child in
    let s = sound_inner _ _ c.node.invariant c.in-Inner.is in
    (s.0, s.1, less_labelled a n)

pub returns-then-count-lt-LEAST-clause-entries : goal.returns-then-count-lt-LEAST-clause-entries
returns-then-count-lt-LEAST-clause-entries g t c =
    let a = here g t (goal.at.returns-then-count-lt-LEAST-clause-entries g t c).After-deref_mut in
    let n = less g t (goal.at.returns-then-count-lt-LEAST-clause-entries g t c).After-least-child in
    c.mend.ensures.entries ∙ less_entries a n

pub returns-then-count-lt-LEAST-clause-tree : goal.returns-then-count-lt-LEAST-clause-tree
returns-then-count-lt-LEAST-clause-tree g t c =
    let a = here g t (goal.at.returns-then-count-lt-LEAST-clause-tree g t c).After-deref_mut in
    let n = less g t (goal.at.returns-then-count-lt-LEAST-clause-tree g t c).After-least-child in
    let small : count c.remove_below.new.node < 16 = omega (arith, c.if-count-lt-LEAST.true, c.count.ensures.count, ap count c.deref-2.ensures) in
    let s = short c.saturating_sub.result a n small c.requires.root.1 c.saturating_sub.ensures in
    let v = c.mend.new.row.ok.0 in
    row_tree a _ (omega (arith, v, c.mend.ensures.few)) (c.mend.ensures.trees _ s.1)

pub returns-then-count-lt-LEAST-clause-count : goal.returns-then-count-lt-LEAST-clause-count
returns-then-count-lt-LEAST-clause-count g t c =
    let a = here g t (goal.at.returns-then-count-lt-LEAST-clause-count g t c).After-deref_mut in
    let o = c.in-Inner.row.ok.0 in
    let v = c.mend.new.row.ok.0 in
    row_count a _ (omega (arith, v, o, c.mend.ensures.count))

pub returns-else-count-lt-LEAST-clause-entries : goal.returns-else-count-lt-LEAST-clause-entries
returns-else-count-lt-LEAST-clause-entries g t c =
    let a = here g t (goal.at.returns-else-count-lt-LEAST-clause-entries g t c).After-deref_mut in
    let n = less g t (goal.at.returns-else-count-lt-LEAST-clause-entries g t c).After-least-child in
    less_entries a n

pub returns-else-count-lt-LEAST-clause-tree : goal.returns-else-count-lt-LEAST-clause-tree
returns-else-count-lt-LEAST-clause-tree g t c =
    let a = here g t (goal.at.returns-else-count-lt-LEAST-clause-tree g t c).After-deref_mut in
    let n = less g t (goal.at.returns-else-count-lt-LEAST-clause-tree g t c).After-least-child in
    let big : 16 ≤ count c.remove_below.new.node = omega (arith, c.if-count-lt-LEAST.false, c.count.ensures.count, ap count c.deref-2.ensures) in
    let few : length (set c.in-Inner.row.items c.place-at.result _) ≤ 32 =
    omega (
      arith,
      length-set c.in-Inner.row.items c.place-at.result
          (record { least = c.least-child.result; node = with_value c.index_mut-child.result.now.node c.remove_below.new.node }),
      (at.levels a).1,
    ) in
    row_tree a _ few (less_trees a n big)

pub returns-else-count-lt-LEAST-clause-count : goal.returns-else-count-lt-LEAST-clause-count
returns-else-count-lt-LEAST-clause-count g t c =
    let a = here g t (goal.at.returns-else-count-lt-LEAST-clause-count g t c).After-deref_mut in
    let n = less g t (goal.at.returns-else-count-lt-LEAST-clause-count g t c).After-least-child in
    row_count a _ (omega (
      arith,
      length-set c.in-Inner.row.items c.place-at.result
          (record { least = c.least-child.result; node = with_value c.index_mut-child.result.now.node c.remove_below.new.node }),
    ))
