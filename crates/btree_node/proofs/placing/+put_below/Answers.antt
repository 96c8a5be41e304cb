use Rattle.std.proofs.Common.{rules, arith, ◌∙◌, sym, ap, ◌≡◌, ◌<◌, length, vec_len}
use Rattle.node_parts.specs.declared.Entry.{Entry}
use Rattle.node_parts.specs.Tree.{leaf, entries, depth, count}
use Rattle.node_parts.specs.Order.{insert_entry, mark_in}
use Rattle.node_parts.proofs.Children.{sound_inner}
use Rattle.node_parts.proofs.RowLemmas.{leaf_is, sound_leaf}
use Rattle.btree_node.specs.Placed.{outcome}
use Rattle.btree_node.specs.Splits.{splits}
use Rattle.btree_node.proofs.Labels.{upto_pair}
use Rattle.btree_node.proofs.Placed.{IsTried, outcome_of, tried_entries, tried_labelled, tried_tree, tried_count, tried_same}
use Rattle.btree_node.proofs.At as at
use Rattle.btree_node.proofs.At.{at_child, at_range}
use Rattle.btree_node.proofs.placing.+put_below.Goals as goal
use Rattle.btree_node.proofs.placing.+put_below.Goals.{in-Leaf, in-Inner}

pub index_mut-child-requires : goal.index_mut-child-requires
index_mut-child-requires g t c =
    let o : length c.in-Inner.row.items ≡ vec_len c.in-Inner.row = search rules in
    omega (arith, o, at_range _ _ _ _ _ c.node.view_is c.in-Inner.is c.node.invariant c.requires.some c.place-at.ensures)

pub put_below-put-requires : goal.put_below-put-requires
put_below-put-requires g t c κs within =
    let a = at_child _ _ _ _ _ c.index_mut-child.result.now _ c.node.view_is c.in-Inner.is c.node.invariant c.requires.ascending c.requires.some
    c.requires.tree c.place-at.ensures c.index_mut-child.ensures.value c.deref_mut.ensures.value in
    let lower : depth c.deref_mut.result.now < depth c.args.node.now = at.lower a in
    (search (rules, lower), (search rules, (at.ascending a, (at.level a, at.some a))))

pub lower_after-requires : goal.lower_after-requires
lower_after-requires g t c =
    let a = at_child _ _ _ _ _ c.index_mut-child.result.now _ c.node.view_is c.in-Inner.is c.node.invariant c.requires.ascending c.requires.some
    c.requires.tree c.place-at.ensures c.index_mut-child.ensures.value c.deref_mut.ensures.value in
    record { belongs = λ behind. upto_pair a behind }

pub invariant_of-node : goal.invariant_of-node
invariant_of-node g t c =
    elim c.match-node.branch [
      | in-Leaf w ↦
          let s = sound_leaf _ _ c.node.invariant w.in-Leaf.is in
          rw w.node-inside-is (w.put_at.ensures.few, omega (arith, s.1, w.put_at.ensures.capacity))
      | in-Inner w ↦
          let a = at_child _ _ _ _ _ w.index_mut-child.result.now _ c.node.view_is w.in-Inner.is c.node.invariant c.requires.ascending c.requires.some
          c.requires.tree c.place-at.ensures w.index_mut-child.ensures.value w.deref_mut.ensures.value in
          let e = w.put_below-put.ensures in
          let n : IsTried w.put_below-put.result w.deref_mut.result.now w.index_mut-child.result.now _ (record { pair = c.args.pair.now; mark = c.args.mark }) =
          record {
            added = e.added;
            lowered = w.lower_after.ensures.added;
            same = e.unchanged;
            label = w.lower_after.ensures.unchanged;
            level = e.tree;
            more = e.count;
          } in
          let s = sound_inner _ _ c.node.invariant w.in-Inner.is in
          rw w.node-inside-is (s.0, s.1, tried_labelled _ a n)
    ]

pub returns-clause-outcome : goal.returns-clause-outcome
returns-clause-outcome g t c =
    elim c.match-node.branch [
      | in-Leaf w ↦
          let seen = leaf_is _ _ _ c.node.view_is w.in-Leaf.is in
          w.result-is ∙ w.put_at.ensures.outcome
          ∙ ap (λ x. outcome (mark_in (entries x) c.args.pair.now) (splits x c.args.pair.now)) (sym seen)
      | in-Inner w ↦
          let a = at_child _ _ _ _ _ w.index_mut-child.result.now _ c.node.view_is w.in-Inner.is c.node.invariant c.requires.ascending c.requires.some
          c.requires.tree c.place-at.ensures w.index_mut-child.ensures.value w.deref_mut.ensures.value in
          w.result-is ∙ w.put_below-put.ensures.outcome ∙ outcome_of a
    ]

pub returns-clause-added : goal.returns-clause-added
returns-clause-added g t c =
    elim c.match-node.branch [
      | in-Leaf w ↦
          let seen = leaf_is _ _ _ c.node.view_is w.in-Leaf.is in
          let entry : Entry = record { pair = c.args.pair.now; mark = c.args.mark } in
          rw w.node-inside-is (λ h. w.put_at.ensures.added (sym w.result-is ∙ h) ∙ ap (λ x. insert_entry (entries x) entry) (sym seen))
      | in-Inner w ↦
          let a = at_child _ _ _ _ _ w.index_mut-child.result.now _ c.node.view_is w.in-Inner.is c.node.invariant c.requires.ascending c.requires.some
          c.requires.tree c.place-at.ensures w.index_mut-child.ensures.value w.deref_mut.ensures.value in
          let e = w.put_below-put.ensures in
          let n : IsTried w.put_below-put.result w.deref_mut.result.now w.index_mut-child.result.now _ (record { pair = c.args.pair.now; mark = c.args.mark }) =
          record {
            added = e.added;
            lowered = w.lower_after.ensures.added;
            same = e.unchanged;
            label = w.lower_after.ensures.unchanged;
            level = e.tree;
            more = e.count;
          } in
          rw w.node-inside-is (λ h. tried_entries a n (sym w.result-is ∙ h))
    ]

pub returns-clause-unchanged : goal.returns-clause-unchanged
returns-clause-unchanged g t c =
    elim c.match-node.branch [
      | in-Leaf w ↦
          let seen = leaf_is _ _ _ c.node.view_is w.in-Leaf.is in
          rw w.node-inside-is (λ h. ap (λ r. leaf r.items) (w.put_at.ensures.unchanged (λ e. h (w.result-is ∙ e))) ∙ sym seen)
      | in-Inner w ↦
          let a = at_child _ _ _ _ _ w.index_mut-child.result.now _ c.node.view_is w.in-Inner.is c.node.invariant c.requires.ascending c.requires.some
          c.requires.tree c.place-at.ensures w.index_mut-child.ensures.value w.deref_mut.ensures.value in
          let e = w.put_below-put.ensures in
          let n : IsTried w.put_below-put.result w.deref_mut.result.now w.index_mut-child.result.now _ (record { pair = c.args.pair.now; mark = c.args.mark }) =
          record {
            added = e.added;
            lowered = w.lower_after.ensures.added;
            same = e.unchanged;
            label = w.lower_after.ensures.unchanged;
            level = e.tree;
            more = e.count;
          } in
          rw w.node-inside-is (λ h. tried_same a n (λ e. h (w.result-is ∙ e)))
    ]

pub returns-clause-tree : goal.returns-clause-tree
returns-clause-tree g t c =
    elim c.match-node.branch [
      | in-Leaf w ↦
          let seen = leaf_is _ _ _ c.node.view_is w.in-Leaf.is in
          let o : length w.put_at.new.row.items ≡ vec_len w.put_at.new.row = search rules in
          rw w.node-inside-is (ap depth seen, omega (arith, o, w.put_at.ensures.few))
      | in-Inner w ↦
          let a = at_child _ _ _ _ _ w.index_mut-child.result.now _ c.node.view_is w.in-Inner.is c.node.invariant c.requires.ascending c.requires.some
          c.requires.tree c.place-at.ensures w.index_mut-child.ensures.value w.deref_mut.ensures.value in
          let e = w.put_below-put.ensures in
          let n : IsTried w.put_below-put.result w.deref_mut.result.now w.index_mut-child.result.now _ (record { pair = c.args.pair.now; mark = c.args.mark }) =
          record {
            added = e.added;
            lowered = w.lower_after.ensures.added;
            same = e.unchanged;
            label = w.lower_after.ensures.unchanged;
            level = e.tree;
            more = e.count;
          } in
          rw w.node-inside-is (tried_tree a n)
    ]

pub returns-clause-count : goal.returns-clause-count
returns-clause-count g t c =
    elim c.match-node.branch [
      | in-Leaf w ↦
          let seen = leaf_is _ _ _ c.node.view_is w.in-Leaf.is in
          let o : length w.put_at.new.row.items ≡ vec_len w.put_at.new.row = search rules in
          let v : length w.in-Leaf.row.items ≡ vec_len w.in-Leaf.row = search rules in
          rw w.node-inside-is (omega (arith, o, v, ap count seen, w.put_at.ensures.count))
      | in-Inner w ↦
          let a = at_child _ _ _ _ _ w.index_mut-child.result.now _ c.node.view_is w.in-Inner.is c.node.invariant c.requires.ascending c.requires.some
          c.requires.tree c.place-at.ensures w.index_mut-child.ensures.value w.deref_mut.ensures.value in
          let e = w.put_below-put.ensures in
          let n : IsTried w.put_below-put.result w.deref_mut.result.now w.index_mut-child.result.now _ (record { pair = c.args.pair.now; mark = c.args.mark }) =
          record {
            added = e.added;
            lowered = w.lower_after.ensures.added;
            same = e.unchanged;
            label = w.lower_after.ensures.unchanged;
            level = e.tree;
            more = e.count;
          } in
          rw w.node-inside-is (tried_count a n)
    ]
