use Rattle.std.proofs.Common.{rules, arith, ◌∙◌, sym, ap, subst, refl, ◌≡◌, ◌<◌, ◌≤◌, length, vec_len}
use Rattle.std.proofs.Math.ListN.{length-set}
use Rattle.node_parts.specs.Tree.{depth, count, IsLeaf}
use Rattle.node_parts.specs.Balance.{IsTree}
use Rattle.node_parts.proofs.Children.{sound_inner}
use Rattle.node_parts.proofs.RowLemmas.{leaf_is, sound_leaf}
use Rattle.btree_node.proofs.Leaves.{leaf_stands, leaf_marked}
use Rattle.btree_node.proofs.Marks.{mark_of, IsMarked, marked_entries, marked_labelled, marked_tree, marked_count}
use Rattle.btree_node.proofs.At as at
use Rattle.btree_node.proofs.At.{at_child, at_range}
use Rattle.std.specs.Prelude.{IsSome}
use Rattle.btree_node.proofs.marking.+set_mark_in.Goals as goal
use Rattle.btree_node.proofs.marking.+set_mark_in.Goals.{in-Leaf, in-Inner}

pub index_mut-requires : goal.index_mut-requires
index_mut-requires g t c =
    let seen = leaf_is _ _ _ c.node.view_is c.in-Leaf.is in
    let a_leaf : IsLeaf c.args.node.now = rw seen tt in
    let here = leaf_stands _ _ _ a_leaf c.place-at.ensures c.requires.ascending c.requires.present in
    let o : length c.in-Leaf.row.items ≡ vec_len c.in-Leaf.row = search rules in
    omega (arith, o, here.0, ap count seen)

pub index_mut-requires-in-Inner : goal.index_mut-requires-in-Inner
index_mut-requires-in-Inner g t c =
    let o : length c.in-Inner.row.items ≡ vec_len c.in-Inner.row = search rules in
    omega (arith, o, at_range _ _ _ _ _ c.node.view_is c.in-Inner.is c.node.invariant c.requires.some c.place-at.ensures)

pub set_mark_in-requires : goal.set_mark_in-requires
set_mark_in-requires g t c κs within =
    let a = at_child _ _ _ _ _ c.index_mut-in-Inner.result.now _ c.node.view_is c.in-Inner.is c.node.invariant c.requires.ascending c.requires.some
    c.requires.tree c.place-at.ensures c.index_mut-in-Inner.ensures.value c.deref_mut.ensures.value in
    let lower : depth c.deref_mut.result.now < depth c.args.node.now = at.lower a in
    (search (rules, lower), (search rules, (at.ascending a, (at.level a, (at.some a, subst IsSome (mark_of a) c.requires.present)))))

pub invariant_of-node : goal.invariant_of-node
invariant_of-node g t c =
    elim c.match-node.branch [
      | in-Leaf w ↦
          let s = sound_leaf _ _ c.node.invariant w.in-Leaf.is in
          rw w.node-inside-is s
      | in-Inner w ↦
          let a = at_child _ _ _ _ _ w.index_mut-in-Inner.result.now _ c.node.view_is w.in-Inner.is c.node.invariant c.requires.ascending c.requires.some
          c.requires.tree c.place-at.ensures w.index_mut-in-Inner.ensures.value w.deref_mut.ensures.value in
          let e = w.set_mark_in.ensures in
          let n : IsMarked w.deref_mut.result.now w.index_mut-in-Inner.result.now _ c.args.pair.now c.args.mark =
          record { entries_are = e.entries; least_is = refl; level = e.tree; count_is = e.count } in
          let s = sound_inner _ _ c.node.invariant w.in-Inner.is in
          rw w.node-inside-is (s.0, s.1, marked_labelled a n)
    ]

pub returns-clause-entries : goal.returns-clause-entries
returns-clause-entries g t c =
    elim c.match-node.branch [
      | in-Leaf w ↦
          let seen = leaf_is _ _ _ c.node.view_is w.in-Leaf.is in
          rw w.node-inside-is (leaf_marked _ _ _ c.args.mark w.index_mut.result.now _ seen c.place-at.ensures c.requires.ascending c.requires.present
          w.index_mut.ensures.value)
      | in-Inner w ↦
          let a = at_child _ _ _ _ _ w.index_mut-in-Inner.result.now _ c.node.view_is w.in-Inner.is c.node.invariant c.requires.ascending c.requires.some
          c.requires.tree c.place-at.ensures w.index_mut-in-Inner.ensures.value w.deref_mut.ensures.value in
          let e = w.set_mark_in.ensures in
          let n : IsMarked w.deref_mut.result.now w.index_mut-in-Inner.result.now _ c.args.pair.now c.args.mark =
          record { entries_are = e.entries; least_is = refl; level = e.tree; count_is = e.count } in
          rw w.node-inside-is (marked_entries a n)
    ]

pub returns-clause-tree : goal.returns-clause-tree
returns-clause-tree g t c =
    elim c.match-node.branch [
      | in-Leaf w ↦
          let seen = leaf_is _ _ _ c.node.view_is w.in-Leaf.is in
          let few : length w.in-Leaf.row.items ≤ 32 = (subst (λ x. IsTree (depth x) x) seen c.requires.tree).1 in
          rw w.node-inside-is (
            ap depth seen,
            omega (
              arith,
              few,
              length-set w.in-Leaf.row.items c.place-at.result (record { pair = w.index_mut.result.now.pair; mark = c.args.mark }),
            ),
          )
      | in-Inner w ↦
          let a = at_child _ _ _ _ _ w.index_mut-in-Inner.result.now _ c.node.view_is w.in-Inner.is c.node.invariant c.requires.ascending c.requires.some
          c.requires.tree c.place-at.ensures w.index_mut-in-Inner.ensures.value w.deref_mut.ensures.value in
          let e = w.set_mark_in.ensures in
          let n : IsMarked w.deref_mut.result.now w.index_mut-in-Inner.result.now _ c.args.pair.now c.args.mark =
          record { entries_are = e.entries; least_is = refl; level = e.tree; count_is = e.count } in
          rw w.node-inside-is (marked_tree a n)
    ]

pub returns-clause-count : goal.returns-clause-count
returns-clause-count g t c =
    elim c.match-node.branch [
      | in-Leaf w ↦
          let seen = leaf_is _ _ _ c.node.view_is w.in-Leaf.is in
          rw w.node-inside-is (length-set w.in-Leaf.row.items c.place-at.result (record { pair = w.index_mut.result.now.pair; mark = c.args.mark })
          ∙ sym (ap count seen))
      | in-Inner w ↦
          let a = at_child _ _ _ _ _ w.index_mut-in-Inner.result.now _ c.node.view_is w.in-Inner.is c.node.invariant c.requires.ascending c.requires.some
          c.requires.tree c.place-at.ensures w.index_mut-in-Inner.ensures.value w.deref_mut.ensures.value in
          let e = w.set_mark_in.ensures in
          let n : IsMarked w.deref_mut.result.now w.index_mut-in-Inner.result.now _ c.args.pair.now c.args.mark =
          record { entries_are = e.entries; least_is = refl; level = e.tree; count_is = e.count } in
          rw w.node-inside-is (marked_count a n)
    ]
