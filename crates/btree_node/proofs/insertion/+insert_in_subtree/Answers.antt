use Rattle.std.proofs.Common.{rules, arith, ℕ, ◌∙◌, refl, sym, ap, subst, get_or, ◌≡◌, ◌+◌, ◌^◌, ◌<◌, ◌≤◌, [], length, vec_len, slice_set}
use Rattle.std.specs.Box.{with_value}
use Rattle.std.proofs.lemmas.List.{append-nil}
use Rattle.btree_node.specs.Splits.{splits}
use Rattle.btree_node.specs.Grown.{AreEnough}
use Rattle.node_parts.specs.Tree.{entries, depth, count}
use Rattle.node_parts.specs.Balance.{IsTree}
use Rattle.node_parts.specs.Place.{place_in}
use Rattle.node_parts.proofs.Children.{sound_inner}
use Rattle.node_parts.proofs.RowLemmas.{length-trees, trees-insert}
use Rattle.btree_node.proofs.Path.{path_head, path_rest, path_some}
use Rattle.btree_node.proofs.At as at
use Rattle.btree_node.proofs.At.{IsAt, IsPut, at_child, at_range}
use Rattle.btree_node.proofs.Labels.{upto_pair}
use Rattle.btree_node.proofs.insertion.+insert_in_subtree.Given.{Over}
use Rattle.btree_node.proofs.insertion.+insert_in_subtree.Goals.{After-deref_mut, In_err-upper, In_ok-upper}
use Rattle.btree_node.proofs.insertion.+insert_in_subtree.Goals as goal

-- the child where the pair belongs
here : (g : Over) (t : ℕ) (c : After-deref_mut g t)
    → IsAt c.args.node.now c.deref_mut.result.now c.in-Inner.row.items (get_or c.args.path.now 0 0) c.index_mut-child.result.now c.args.entry.pair
here g t c =
    at_child _ _ _ _ _ c.index_mut-child.result.now _ c.node.view_is c.in-Inner.is c.node.invariant c.requires.ascending c.requires.some c.requires.tree
    (path_head _ _ _ c.requires.path) c.index_mut-child.ensures.value c.deref_mut.ensures.value

-- the child with the entry in it, where it was not split
put_alone : (g : Over) (t : ℕ) (c : In_err-upper g t) → 16 ≤ count c.deref_mut.result.now
    → IsPut c.deref_mut.result.now c.index_mut-child.result.now
    (record { least = c.lower.new.least; node = with_value c.index_mut-child.result.now.node c.insert_in_subtree.new.node }) c.args.entry []
put_alone g t c low =
    let e = c.in_err-upper.ensures in
    let kept : count c.deref_mut.result.now ≤ count c.insert_in_subtree.new.node = e.count in
    record { entries_are = e.entries; least_is = c.lower.ensures; level = e.tree; low = omega (arith, kept, low) }

-- the child with the entry in it, without its upper half
put_split : (g : Over) (t : ℕ) (c : In_ok-upper g t)
    → IsPut c.deref_mut.result.now c.index_mut-child.result.now
    (record { least = c.lower.new.least; node = with_value c.index_mut-child.result.now.node c.insert_in_subtree.new.node }) c.args.entry
    (entries c.in_ok-upper.upper.node.value)
put_split g t c =
    let e = c.in_ok-upper.ensures in
    record { entries_are = e.entries; least_is = c.lower.ensures; level = e.tree; low = e.count }

pub unreachable-requires : goal.unreachable-requires
unreachable-requires g t c =
    omega (arith, c.in_default.len_below, ap length c.requires.path, path_some c.args.node.now c.args.entry.pair)

pub invariant_of-node : goal.invariant_of-node
invariant_of-node g t c =
    c.node.invariant

pub insert_in_leaf-requires-clause-leaf : goal.insert_in_leaf-requires-clause-leaf
insert_in_leaf-requires-clause-leaf g t c =
    rw c.in_default-parts.is tt

pub insert_in_leaf-requires-clause-tree : goal.insert_in_leaf-requires-clause-tree
insert_in_leaf-requires-clause-tree g t c =
    subst (λ x. IsTree (depth x) x) (sym c.node.view_is) c.requires.tree

pub insert_in_leaf-requires-clause-place : goal.insert_in_leaf-requires-clause-place
insert_in_leaf-requires-clause-place g t c =
    let z : get_or c.args.path.now 0 0 ≡ place_in c.args.node.now c.args.entry.pair = path_head _ _ _ c.requires.path in
    z ∙ ap (λ x. place_in x c.args.entry.pair) (sym c.node.view_is)

pub insert_in_leaf-requires-clause-spares : goal.insert_in_leaf-requires-clause-spares
insert_in_leaf-requires-clause-spares g t c =
    subst (λ x. AreEnough (splits x c.args.entry.pair) c.args.spares.now) (sym c.node.view_is) c.requires.spares

pub index_mut-child-requires : goal.index_mut-child-requires
index_mut-child-requires g t c =
    let z : get_or c.args.path.now 0 0 ≡ place_in c.args.node.now c.args.entry.pair = path_head _ _ _ c.requires.path in
    let o = c.in-Inner.row.ok.0 in
    omega (arith, o, at_range _ _ _ _ _ c.node.view_is c.in-Inner.is c.node.invariant c.requires.some z)

pub lower-requires : goal.lower-requires
lower-requires g t c =
    let z : get_or c.args.path.now 0 0 ≡ place_in c.args.node.now c.args.entry.pair = path_head _ _ _ c.requires.path in
    let a = at_child _ _ _ _ _ c.index_mut-child.result.now _ c.node.view_is c.in-Inner.is c.node.invariant c.requires.ascending c.requires.some c.requires.tree
    z c.index_mut-child.ensures.value refl in
    record { belongs = λ behind. upto_pair a behind }

pub insert_in_subtree-requires : goal.insert_in_subtree-requires
insert_in_subtree-requires g t c κs within =
    let a = here g t (goal.at.insert_in_subtree-requires g t c).After-deref_mut in
    let lower : depth c.deref_mut.result.now < depth c.args.node.now = at.lower a in
    (search (rules, lower), (search rules, (at.ascending a, (at.level a, (at.some a, (path_rest _ a c.requires.path, at.enough a _ c.requires.spares))))))

pub invariant_of-node-in-Break-1 : goal.invariant_of-node-in-Break-1
invariant_of-node-in-Break-1 g t c =
    let a = here g t (goal.at.invariant_of-node-in-Break-1 g t c).After-deref_mut in
    let n = put_alone g t (goal.at.invariant_of-node-in-Break-1 g t c).In_err-upper (at.child_level a).0 in
    let s = sound_inner _ _ c.node.invariant c.in-Inner.is in
    (s.0, s.1, at.put_labelled a n)

pub returns-in_err-upper-clause-entries : goal.returns-in_err-upper-clause-entries
returns-in_err-upper-clause-entries g t c =
    let a = here g t (goal.at.returns-in_err-upper-clause-entries g t c).After-deref_mut in
    let n = put_alone g t (goal.at.returns-in_err-upper-clause-entries g t c).In_err-upper (at.child_level a).0 in
    rw c.from_residual.ensures (append-nil _ ∙ at.put_entries a n)

pub returns-in_err-upper-clause-tree : goal.returns-in_err-upper-clause-tree
returns-in_err-upper-clause-tree g t c =
    let a = here g t (goal.at.returns-in_err-upper-clause-tree g t c).After-deref_mut in
    let n = put_alone g t (goal.at.returns-in_err-upper-clause-tree g t c).In_err-upper (at.child_level a).0 in
    at.put_tree a n

pub returns-in_err-upper-clause-count : goal.returns-in_err-upper-clause-count
returns-in_err-upper-clause-count g t c =
    let a = here g t (goal.at.returns-in_err-upper-clause-count g t c).After-deref_mut in
    let n = put_alone g t (goal.at.returns-in_err-upper-clause-count g t c).In_err-upper (at.child_level a).0 in
    rw c.from_residual.ensures (at.put_count a n)

pub overflow_add-at : goal.overflow_add-at
overflow_add-at g t c =
    let a = here g t (goal.at.overflow_add-at g t c).After-deref_mut in
    let o = c.in-Inner.row.ok.0 in
    let s = sound_inner _ _ c.node.invariant c.in-Inner.is in
    let small : get_or c.args.path.now 0 0 + 1 < 2 ^ 64 = omega (arith, a.in_range, o, s.0) in
    search (rules, small)

pub insert_at-requires-clause-in_range : goal.insert_at-requires-clause-in_range
insert_at-requires-clause-in_range g t c =
    let a = here g t (goal.at.insert_at-requires-clause-in_range g t c).After-deref_mut in
    let o = c.in-Inner.row.ok.0 in
    omega (arith, a.in_range, o)

pub insert_at-requires-clause-room : goal.insert_at-requires-clause-room
insert_at-requires-clause-room g t c =
    let s = sound_inner _ _ c.node.invariant c.in-Inner.is in
    omega (arith, s.1, c.if-len-lt-FULL.true, c.len.ensures)

pub invariant_of-node-then-len-lt-FULL : goal.invariant_of-node-then-len-lt-FULL
invariant_of-node-then-len-lt-FULL g t c =
    let a = here g t (goal.at.invariant_of-node-then-len-lt-FULL g t c).After-deref_mut in
    let n = put_split g t (goal.at.invariant_of-node-then-len-lt-FULL g t c).In_ok-upper in
    let s = sound_inner _ _ c.node.invariant c.in-Inner.is in (
      omega (arith, c.insert_at.ensures.len, c.if-len-lt-FULL.true, c.len.ensures),
      omega (arith, s.1, c.insert_at.ensures.capacity),
      rw c.insert_at.ensures.items (at.split_labelled c.in_ok-upper.upper a n c.in_ok-upper.ensures.upper.2),
    )

pub returns-then-len-lt-FULL-clause-entries : goal.returns-then-len-lt-FULL-clause-entries
returns-then-len-lt-FULL-clause-entries g t c =
    let a = here g t (goal.at.returns-then-len-lt-FULL-clause-entries g t c).After-deref_mut in
    let n = put_split g t (goal.at.returns-then-len-lt-FULL-clause-entries g t c).In_ok-upper in
    append-nil _ ∙ rw c.insert_at.ensures.items (at.split_entries c.in_ok-upper.upper a n)

pub returns-then-len-lt-FULL-clause-tree : goal.returns-then-len-lt-FULL-clause-tree
returns-then-len-lt-FULL-clause-tree g t c =
    let k = get_or c.args.path.now 0 0 in
    let a = here g t (goal.at.returns-then-len-lt-FULL-clause-tree g t c).After-deref_mut in
    let e = c.in_ok-upper.ensures in
    let n = put_split g t (goal.at.returns-then-len-lt-FULL-clause-tree g t c).In_ok-upper in
    let m = c.insert_at.new.row.ok.0 in
    let few : length c.insert_at.new.row.items ≤ 32 = omega (arith, m, c.insert_at.ensures.len, c.if-len-lt-FULL.true, c.len.ensures) in (
      (at.levels a).0,
      omega (arith, length-trees c.insert_at.new.row.items, few),
      rw (c.insert_at.ensures.items, trees-insert (slice_set c.in-Inner.row.items k _) (k + 1) c.in_ok-upper.upper)
          (at.split_trees c.in_ok-upper.upper a n e.upper.0 e.upper.1),
    )

pub returns-then-len-lt-FULL-clause-count : goal.returns-then-len-lt-FULL-clause-count
returns-then-len-lt-FULL-clause-count g t c =
    let a = here g t (goal.at.returns-then-len-lt-FULL-clause-count g t c).After-deref_mut in
    let o = c.in-Inner.row.ok.0 in
    let m = c.insert_at.new.row.ok.0 in
    let k : vec_len c.insert_at.new.row ≡ vec_len c.in-Inner.row + 1 = c.insert_at.ensures.len in
    omega (arith, m, o, k, ap count a.seen, length-trees c.in-Inner.row.items, length-trees c.insert_at.new.row.items)

pub take_inner-other-requires : goal.take_inner-other-requires
take_inner-other-requires g t c =
    let a = here g t (goal.at.take_inner-other-requires g t c).After-deref_mut in
    let e = c.in_ok-upper.ensures in
    let o = c.in-Inner.row.ok.0 in
    let full : length c.in-Inner.row.items ≡ 32 = omega (arith, (at.levels a).1, c.if-len-lt-FULL.false, c.len.ensures, o) in
    let all = at.all_full a e.split.0 full in
    record { some = omega (arith, e.split.1, e.split.0, all, at.child_depth a, (at.levels a).0, c.requires.spares.1) }

pub overflow_add-at-2 : goal.overflow_add-at-2
overflow_add-at-2 g t c =
    let a = here g t (goal.at.overflow_add-at-2 g t c).After-deref_mut in
    let o = c.in-Inner.row.ok.0 in
    let s = sound_inner _ _ c.node.invariant c.in-Inner.is in
    let small : get_or c.args.path.now 0 0 + 1 < 2 ^ 64 = omega (arith, a.in_range, o, s.0) in
    search (rules, small)

pub split_children-requires-clause-in_range : goal.split_children-requires-clause-in_range
split_children-requires-clause-in_range g t c =
    let a = here g t (goal.at.split_children-requires-clause-in_range g t c).After-deref_mut in
    omega (arith, a.in_range, (at.levels a).1)

pub split_children-requires-clause-full : goal.split_children-requires-clause-full
split_children-requires-clause-full g t c =
    let a = here g t (goal.at.split_children-requires-clause-full g t c).After-deref_mut in
    let o = c.in-Inner.row.ok.0 in
    let full : length c.in-Inner.row.items ≡ 32 = omega (arith, (at.levels a).1, c.if-len-lt-FULL.false, c.len.ensures, o) in
    omega (arith, full, o)

pub split_children-requires-clause-room : goal.split_children-requires-clause-room
split_children-requires-clause-room g t c =
    (sound_inner _ _ c.node.invariant c.in-Inner.is).1

pub split_children-requires-clause-labelled : goal.split_children-requires-clause-labelled
split_children-requires-clause-labelled g t c =
    let a = here g t (goal.at.split_children-requires-clause-labelled g t c).After-deref_mut in
    let n = put_split g t (goal.at.split_children-requires-clause-labelled g t c).In_ok-upper in
    at.put_labelled a n

pub split_children-requires-clause-label : goal.split_children-requires-clause-label
split_children-requires-clause-label g t c =
    c.in_ok-upper.ensures.upper.2

pub split_children-requires-clause-empty : goal.split_children-requires-clause-empty
split_children-requires-clause-empty g t c =
    c.deref_mut-2.ensures.value ∙ c.take_inner-other.ensures.inner

pub invariant_of-node-2 : goal.invariant_of-node-2
invariant_of-node-2 g t c =
    let s = sound_inner _ _ c.node.invariant c.in-Inner.is in (
      omega (arith, c.split_children.ensures.all, c.split_children.ensures.upper_low),
      omega (arith, c.split_children.ensures.capacity, s.1),
      c.split_children.ensures.labelled,
    )

pub least-least-requires : goal.least-least-requires
least-least-requires g t c =
    let a = here g t (goal.at.least-least-requires g t c).After-deref_mut in
    let e = c.in_ok-upper.ensures in
    let w = c.in_ok-upper.upper in
    let n = put_split g t (goal.at.least-least-requires g t c).In_ok-upper in
    let y = c.split_children.new.upper in
    let few : count y ≤ 32 = omega (arith, c.split_children.ensures.all, c.split_children.ensures.low) in
    let upper : IsTree (depth c.args.node.now) y =
    at.cut_upper w c.split_children.new.row.items y a n c.split_children.ensures.joined e.upper.0 e.upper.1 c.split_children.ensures.inner few in
    let some : 0 < length (entries y) = at.not_empty (depth c.args.node.now) y upper c.split_children.ensures.upper_low in
    record { some = rw c.deref.ensures some }

pub returns-clause-entries : goal.returns-clause-entries
returns-clause-entries g t c =
    let a = here g t (goal.at.returns-clause-entries g t c).After-deref_mut in
    let w = c.in_ok-upper.upper in
    let n = put_split g t (goal.at.returns-clause-entries g t c).In_ok-upper in
    at.cut_entries w c.split_children.new.row.items c.split_children.new.upper a n c.split_children.ensures.joined c.split_children.ensures.inner

pub returns-clause-tree : goal.returns-clause-tree
returns-clause-tree g t c =
    let a = here g t (goal.at.returns-clause-tree g t c).After-deref_mut in
    let e = c.in_ok-upper.ensures in
    let w = c.in_ok-upper.upper in
    let n = put_split g t (goal.at.returns-clause-tree g t c).In_ok-upper in
    let m = c.split_children.new.row.ok.0 in
    let few : length c.split_children.new.row.items ≤ 32 = omega (arith, m, c.split_children.ensures.all, c.split_children.ensures.upper_low) in
    at.cut_tree w c.split_children.new.row.items c.split_children.new.upper a n c.split_children.ensures.joined e.upper.0 e.upper.1 few

pub returns-clause-upper : goal.returns-clause-upper
returns-clause-upper g t c =
    let a = here g t (goal.at.returns-clause-upper g t c).After-deref_mut in
    let e = c.in_ok-upper.ensures in
    let w = c.in_ok-upper.upper in
    let n = put_split g t (goal.at.returns-clause-upper g t c).In_ok-upper in
    let y = c.split_children.new.upper in
    let few : count y ≤ 32 = omega (arith, c.split_children.ensures.all, c.split_children.ensures.low) in
    let upper : IsTree (depth c.args.node.now) y =
    at.cut_upper w c.split_children.new.row.items y a n c.split_children.ensures.joined e.upper.0 e.upper.1 c.split_children.ensures.inner few in
    (c.split_children.ensures.upper_low, upper, rw c.deref.ensures at c.least-least.ensures.least)

pub returns-clause-count : goal.returns-clause-count
returns-clause-count g t c =
    let m = c.split_children.new.row.ok.0 in
    omega (arith, m, length-trees c.split_children.new.row.items, c.split_children.ensures.low)

pub returns-clause-split : goal.returns-clause-split
returns-clause-split g t c =
    let a = here g t (goal.at.returns-clause-split g t c).After-deref_mut in
    let e = c.in_ok-upper.ensures in
    let o = c.in-Inner.row.ok.0 in
    let full : length c.in-Inner.row.items ≡ 32 = omega (arith, (at.levels a).1, c.if-len-lt-FULL.false, c.len.ensures, o) in
    (at.all_full a e.split.0 full, omega (arith, e.split.1, c.take_inner-other.ensures.inners, at.child_depth a, (at.levels a).0))
