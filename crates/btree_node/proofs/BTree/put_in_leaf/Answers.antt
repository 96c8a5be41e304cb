use Rattle.std.proofs.Common.{arith, ◌∙◌, sym, ap, subst, ◌≡◌, ◌+◌, ◌<◌, None, length}
use Rattle.node_parts.specs.declared.Entry.{Entry}
use Rattle.node_parts.specs.Tree.{entries, depth}
use Rattle.node_parts.specs.Balance.{IsRoot}
use Rattle.node_parts.specs.Order.{mark_in, insert_entry, IsAscending}
use Rattle.btree_node.specs.Top.{tree_at, IsWholeTree}
use Rattle.btree_node.proofs.Ascending.{ascending_insert, length_insert}
use Rattle.btree_node.proofs.Contents.{len-contents}
use Rattle.btree_node.proofs.Placed.{added_of, no_leaf, outcome_whole, put_absent, put_contents}
use Rattle.btree_node.proofs.Top.{root_some, root_again}
use Rattle.btree_node.proofs.BTree.put_in_leaf.Goals as goal

pub returns-in_default-clause-outcome : goal.returns-in_default-clause-outcome
returns-in_default-clause-outcome g c = no_leaf c.args.self.now c.args.pair.now (sym c.self.view_is ∙ ap tree_at c.in_default.is)

pub put_below-put-requires-clause-some : goal.put_below-put-requires-clause-some
put_below-put-requires-clause-some g c =
    let whole = subst IsWholeTree c.in-Some.is c.self.invariant.whole in
    rw c.deref_mut.ensures.value (root_some _ _ whole)

pub returns-in_default-put : goal.returns-in_default-put
returns-in_default-put g c =
    let e = c.put_below-put.ensures in
    let whole = subst IsWholeTree c.in-Some.is c.self.invariant.whole in
    let some : 0 < length (entries c.deref_mut.result.now) = rw c.deref_mut.ensures.value (root_some _ _ whole) in
    let here : c.deref_mut.result.now ≡ c.args.self.now = c.deref_mut.ensures.value ∙ sym (ap tree_at c.in-Some.is) ∙ c.self.view_is in
    record {
      outcome = outcome_whole _ _ _ _ here some e.outcome;
      added = put_contents _ _ _ _ c.args.pair.now c.args.mark here e.outcome e.added;
      unchanged = λ other. e.unchanged other ∙ here;
    }

pub invariant_of-self-2 : goal.invariant_of-self-2
invariant_of-self-2 g c =
    let e = c.put_below-put.ensures in
    let entry : Entry = record { pair = c.args.pair.now; mark = c.args.mark } in
    let whole = subst IsWholeTree c.in-Some.is c.self.invariant.whole in
    let root : IsRoot (depth c.deref_mut.result.now) c.deref_mut.result.now = rw c.deref_mut.ensures.value whole in
    let seen : entries (tree_at c.self.inside.root) ≡ entries c.deref_mut.result.now = ap (λ r. entries (tree_at r)) c.in-Some.is
    ∙ ap entries (sym c.deref_mut.ensures.value) in
    let here : c.deref_mut.result.now ≡ c.args.self.now = c.deref_mut.ensures.value ∙ sym (ap tree_at c.in-Some.is) ∙ c.self.view_is in
    let up : IsAscending (entries c.deref_mut.result.now) = subst IsAscending seen c.self.invariant.ascending in
    let own : IsAscending (entries c.args.self.now) = subst (λ t. IsAscending (entries t)) here up in
    let now : entries c.put_below-put.new.node ≡ insert_entry (entries c.deref_mut.result.now) entry = e.added c.in-Added.is in
    let absent : mark_in (entries c.deref_mut.result.now) c.args.pair.now ≡ None = (added_of _ _ _ c.in-Added.is e.outcome).0 in
    let long : length (entries c.put_below-put.new.node) ≡ length (entries c.deref_mut.result.now) + 1 = ap length now ∙ length_insert _ entry in
    let room = c.requires.room (put_absent _ _ _ _ here e.outcome c.in-Added.is) in
    record {
      ascending = rw now (ascending_insert _ entry up absent);
      whole = root_again _ _ root e.tree e.count;
      counted = omega (arith, c.self.invariant.counted, ap length seen, long);
      few = omega (arith, c.self.invariant.counted, ap length seen, ap (λ t. length (entries t)) here, len-contents c.args.self.now own, room);
    }

pub returns-clause-outcome : goal.returns-clause-outcome
returns-clause-outcome g c =
    let whole = subst IsWholeTree c.in-Some.is c.self.invariant.whole in
    let some : 0 < length (entries c.deref_mut.result.now) = rw c.deref_mut.ensures.value (root_some _ _ whole) in
    let here : c.deref_mut.result.now ≡ c.args.self.now = c.deref_mut.ensures.value ∙ sym (ap tree_at c.in-Some.is) ∙ c.self.view_is in
    outcome_whole _ _ _ _ here some c.put_below-put.ensures.outcome

pub returns-clause-added : goal.returns-clause-added
returns-clause-added g c =
    let here : c.deref_mut.result.now ≡ c.args.self.now = c.deref_mut.ensures.value ∙ sym (ap tree_at c.in-Some.is) ∙ c.self.view_is in
    put_contents _ _ _ _ c.args.pair.now c.args.mark here c.put_below-put.ensures.outcome c.put_below-put.ensures.added
