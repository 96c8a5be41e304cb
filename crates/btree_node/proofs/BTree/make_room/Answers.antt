use Rattle.std.proofs.Common.{arith, ◌∙◌, sym, ap, subst, ◌≡◌, ◌<◌, length}
use Rattle.node_parts.specs.Tree.{entries, depth}
use Rattle.node_parts.specs.Balance.{IsRoot}
use Rattle.node_parts.specs.Order.{IsAscending}
use Rattle.btree_node.specs.Handed.{can_make_room}
use Rattle.btree_node.specs.Top.{tree_at, IsWholeTree}
use Rattle.btree_node.proofs.Handing.{no_nodes, same_contents}
use Rattle.btree_node.proofs.Top.{root_some, root_again}
use Rattle.btree_node.proofs.BTree.make_room.Goals as goal

pub make_room_below-requires-clause-some : goal.make_room_below-requires-clause-some
make_room_below-requires-clause-some g c =
    let whole = subst IsWholeTree c.in-Some.is c.self.invariant.whole in
    rw c.deref_mut.ensures.value (root_some _ _ whole)

pub invariant_of-self-2 : goal.invariant_of-self-2
invariant_of-self-2 g c =
    let e = c.make_room_below.ensures in
    let whole = subst IsWholeTree c.in-Some.is c.self.invariant.whole in
    let root : IsRoot (depth c.deref_mut.result.now) c.deref_mut.result.now = rw c.deref_mut.ensures.value whole in
    let seen : entries (tree_at c.self.inside.root) ≡ entries c.deref_mut.result.now = ap (λ r. entries (tree_at r)) c.in-Some.is
    ∙ ap entries (sym c.deref_mut.ensures.value) in
    let up : IsAscending (entries c.deref_mut.result.now) = subst IsAscending seen c.self.invariant.ascending in
    record {
      ascending = rw e.entries up;
      whole = root_again _ _ root e.tree (omega (arith, e.count));
      counted = c.self.invariant.counted ∙ ap length seen ∙ sym (ap length e.entries);
      few = c.self.invariant.few;
    }

pub returns-clause-contents : goal.returns-clause-contents
returns-clause-contents g c =
    let here : c.deref_mut.result.now ≡ c.args.self.now = c.deref_mut.ensures.value ∙ sym (ap tree_at c.in-Some.is) ∙ c.self.view_is in
    same_contents _ _ (c.make_room_below.ensures.entries ∙ ap entries here)

pub returns-clause-room : goal.returns-clause-room
returns-clause-room g c =
    let e = c.make_room_below.ensures in
    let whole = subst IsWholeTree c.in-Some.is c.self.invariant.whole in
    let some : 0 < length (entries c.deref_mut.result.now) = rw c.deref_mut.ensures.value (root_some _ _ whole) in
    let more : 0 < length (entries c.make_room_below.new.node) = rw e.entries some in
    λ h. no_nodes c.make_room_below.new.node c.args.pair.now more (e.room h)

pub returns-clause-unchanged : goal.returns-clause-unchanged
returns-clause-unchanged g c =
    let here : c.deref_mut.result.now ≡ c.args.self.now = c.deref_mut.ensures.value ∙ sym (ap tree_at c.in-Some.is) ∙ c.self.view_is in
    λ h. c.make_room_below.ensures.unchanged h ∙ here

pub returns-clause-made : goal.returns-clause-made
returns-clause-made g c =
    let here : c.deref_mut.result.now ≡ c.args.self.now = c.deref_mut.ensures.value ∙ sym (ap tree_at c.in-Some.is) ∙ c.self.view_is in
    c.make_room_below.ensures.made ∙ ap (λ x. can_make_room x c.args.pair.now) here
