use Rattle.std.proofs.Common.{arith, ◌∙◌, sym, ap, subst, ◌≡◌, length}
use Rattle.std.specs.Prelude.{IsSome}
use Rattle.node_parts.specs.Tree.{entries, depth}
use Rattle.node_parts.specs.Balance.{IsRoot}
use Rattle.node_parts.specs.Order.{mark_in, with_mark, IsAscending}
use Rattle.btree_node.specs.Top.{tree_at, IsWholeTree}
use Rattle.btree_node.proofs.Ascending.{ascending_mark, length_mark}
use Rattle.btree_node.proofs.Top.{root_some, root_again}
use Rattle.btree_node.proofs.Contents.{contents-with_mark, present-contents, not_empty}
use Rattle.btree_node.proofs.BTree.set_mark.Goals as goal
use Rattle.btree_node.proofs.BTree.set_mark.Goals.{in-Some, in_default}

pub set_mark_in-requires-clause-some : goal.set_mark_in-requires-clause-some
set_mark_in-requires-clause-some g c =
    let whole = subst IsWholeTree c.in-Some.is c.self.invariant.whole in
    rw c.deref_mut.ensures.value (root_some _ _ whole)

pub set_mark_in-requires-clause-present : goal.set_mark_in-requires-clause-present
set_mark_in-requires-clause-present g c =
    let here : entries c.args.self.now ≡ entries c.deref_mut.result.now =
    ap entries (sym c.self.view_is ∙ ap tree_at c.in-Some.is ∙ sym c.deref_mut.ensures.value) in
    subst (λ es. IsSome (mark_in es c.args.pair.now)) here (present-contents _ _ c.requires.present)

pub invariant_of-self : goal.invariant_of-self
invariant_of-self g c =
    elim c.match-self.branch [
      | in-Some w ↦
          let whole = subst IsWholeTree w.in-Some.is c.self.invariant.whole in
          let seen : entries (tree_at c.self.inside.root) ≡ entries w.deref_mut.result.now = ap (λ r. entries (tree_at r)) w.in-Some.is
          ∙ ap entries (sym w.deref_mut.ensures.value) in
          let e = w.set_mark_in.ensures in
          let up : IsAscending (entries w.deref_mut.result.now) = subst IsAscending seen c.self.invariant.ascending in
          let root : IsRoot (depth w.deref_mut.result.now) w.deref_mut.result.now = rw w.deref_mut.ensures.value whole in
          rw w.self-inside-is (record {
            ascending = rw e.entries (ascending_mark _ _ _ up);
            whole = root_again _ _ root e.tree (omega (arith, e.count));
            counted = c.self.invariant.counted ∙ ap length seen ∙ sym (ap length e.entries ∙ length_mark _ _ _);
            few = c.self.invariant.few;
          })
      | in_default w ↦ rw w.self-inside-is c.self.invariant
    ]

pub returns : goal.returns
returns g c =
    elim c.match-self.branch [
      | in-Some w ↦
          let here : entries w.deref_mut.result.now ≡ entries c.args.self.now =
          ap entries (w.deref_mut.ensures.value ∙ sym (ap tree_at w.in-Some.is) ∙ c.self.view_is) in
          rw w.self-inside-is (contents-with_mark c.args.self.now w.set_mark_in.new.node c.args.pair.now c.args.mark c.requires.present
          (w.set_mark_in.ensures.entries ∙ ap (λ es. with_mark es c.args.pair.now c.args.mark) here))
      | in_default w ↦ not_empty c.args.self.now c.args.pair.now c.requires.present (ap entries (sym c.self.view_is ∙ ap tree_at w.in_default.is))
    ]
