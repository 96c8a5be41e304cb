use Rattle.std.proofs.Common.{arith, ◌∙◌, sym, ap, subst, Some, ◌≡◌, length}
use Rattle.std.specs.Prelude.{IsSome}
use Rattle.node_parts.specs.Tree.{entries, depth}
use Rattle.node_parts.specs.Balance.{IsRoot}
use Rattle.node_parts.specs.Order.{mark_in, IsAscending}
use Rattle.btree_node.specs.Without.{without}
use Rattle.btree_node.specs.Top.{tree_at, IsWholeTree}
use Rattle.btree_node.proofs.Top.{root_some, tree_again}
use Rattle.btree_node.proofs.Remove.{stands, stands_parts, ascending_without}
use Rattle.btree_node.proofs.Contents.{contents-without, present-contents, not_empty}
use Rattle.btree_node.proofs.BTree.remove.Goals as goal

pub returns-in_default : goal.returns-in_default
returns-in_default g c = not_empty c.args.self.now c.args.pair.now c.requires.present
    (ap entries (sym c.self.view_is ∙ ap tree_at (sym c.take.ensures.value ∙ c.in_default.is)))

pub remove_below-requires-clause-present : goal.remove_below-requires-clause-present
remove_below-requires-clause-present g c =
    let at : c.self.inside.root ≡ Some c.in-Some.root = sym c.take.ensures.value ∙ c.in-Some.is in
    let here : entries c.args.self.now ≡ entries c.deref_mut.result.now = ap entries (sym c.self.view_is ∙ ap tree_at at ∙ sym c.deref_mut.ensures.value) in
    subst (λ es. IsSome (mark_in es c.args.pair.now)) here (present-contents _ _ c.requires.present)

pub shrink-requires-clause-tree : goal.shrink-requires-clause-tree
shrink-requires-clause-tree g c =
    let at : c.self.inside.root ≡ Some c.in-Some.root = sym c.take.ensures.value ∙ c.in-Some.is in
    let whole : IsRoot (depth c.deref_mut.result.now) c.deref_mut.result.now = rw c.deref_mut.ensures.value (subst IsWholeTree at c.self.invariant.whole) in
    tree_again _ _ whole c.remove_below.ensures.tree c.remove_below.ensures.count

pub overflow_sub-self : goal.overflow_sub-self
overflow_sub-self g c =
    let at : c.self.inside.root ≡ Some c.in-Some.root = sym c.take.ensures.value ∙ c.in-Some.is in
    let some = root_some _ _ (subst IsWholeTree at c.self.invariant.whole) in
    omega (arith, some, c.self.invariant.counted, ap (λ r. length (entries (tree_at r))) at)

pub invariant_of-self-2 : goal.invariant_of-self-2
invariant_of-self-2 g c =
    let at : c.self.inside.root ≡ Some c.in-Some.root = sym c.take.ensures.value ∙ c.in-Some.is in
    let here : entries (tree_at c.self.inside.root) ≡ entries c.deref_mut.result.now = ap (λ r. entries (tree_at r)) at
    ∙ ap entries (sym c.deref_mut.ensures.value) in
    let up : IsAscending (entries c.deref_mut.result.now) = subst IsAscending here c.self.invariant.ascending in
    let present : IsSome (mark_in (entries c.deref_mut.result.now) c.args.pair.now) =
    subst (λ es. IsSome (mark_in es c.args.pair.now)) (ap entries (sym c.self.view_is) ∙ here) (present-contents _ _ c.requires.present) in
    let now : entries (tree_at c.shrink.result) ≡ without (entries c.deref_mut.result.now) c.args.pair.now = c.shrink.ensures.entries
    ∙ c.remove_below.ensures.entries in
    let s = stands_parts _ _ _ (stands _ _ up present) in
    record {
      ascending = rw now (ascending_without _ _ up);
      whole = c.shrink.ensures.whole;
      counted = omega (arith, c.self.invariant.counted, ap length here, ap length now, s.2);
      few = omega (arith, c.self.invariant.few);
    }

pub returns : goal.returns
returns g c =
    let at : c.self.inside.root ≡ Some c.in-Some.root = sym c.take.ensures.value ∙ c.in-Some.is in
    let here : entries c.deref_mut.result.now ≡ entries c.args.self.now = ap entries (c.deref_mut.ensures.value ∙ sym (ap tree_at at) ∙ c.self.view_is) in
    contents-without c.args.self.now (tree_at c.shrink.result) c.args.pair.now (c.shrink.ensures.entries ∙ c.remove_below.ensures.entries
    ∙ ap (λ es. without es c.args.pair.now) here)
