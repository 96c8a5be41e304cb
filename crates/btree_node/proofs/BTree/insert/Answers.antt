use Rattle.std.proofs.Common.{arith, ◌∙◌, ap, subst, ◌≡◌, ◌+◌, None, length}
use Rattle.node_parts.specs.declared.Entry.{Entry}
use Rattle.node_parts.specs.Tree.{entries}
use Rattle.node_parts.specs.Order.{mark_in, insert_entry, IsAscending}
use Rattle.btree_node.specs.Top.{tree_at}
use Rattle.btree_node.proofs.Ascending.{ascending_insert, length_insert}
use Rattle.btree_node.proofs.Contents.{contents-insert, absent-contents}
use Rattle.btree_node.proofs.BTree.insert.Goals as goal

pub invariant_of-self : goal.invariant_of-self
invariant_of-self g c =
    let e = c.insert_top-root.ensures in
    let seen : entries (tree_at c.take.result) ≡ entries c.args.self.now = ap (λ r. entries (tree_at r)) c.take.ensures.value ∙ ap entries c.self.view_is in
    let entry : Entry = record { pair = c.args.plan.pair; mark = c.args.mark } in
    let same : c.plan.inside.pair ≡ c.args.plan.pair = ap (λ p. p.pair) c.plan.view_is in
    let now : entries c.insert_top-root.result.value ≡ insert_entry (entries c.args.self.now) entry = e.entries
    ∙ ap (λ w. insert_entry w (record { pair = c.plan.inside.pair; mark = c.args.mark })) seen
    ∙ ap (λ p. insert_entry (entries c.args.self.now) (record { pair = p; mark = c.args.mark })) same in
    let up : IsAscending (entries c.args.self.now) = subst (λ t. IsAscending (entries t)) c.self.view_is c.self.invariant.ascending in
    let absent : mark_in (entries c.args.self.now) entry.pair ≡ None = absent-contents _ _ c.requires.absent in
    let counted : c.self.inside.len ≡ length (entries c.args.self.now) = c.self.invariant.counted ∙ ap (λ t. length (entries t)) c.self.view_is in
    let long : length (entries c.insert_top-root.result.value) ≡ length (entries c.args.self.now) + 1 = ap length now
    ∙ length_insert (entries c.args.self.now) entry in
    record {
      ascending = rw now (ascending_insert (entries c.args.self.now) entry up absent);
      whole = e.root;
      counted = omega (arith, counted, long);
      few = omega (arith, counted, c.requires.plan.room);
    }

pub returns : goal.returns
returns g c =
    let e = c.insert_top-root.ensures in
    let seen : entries (tree_at c.take.result) ≡ entries c.args.self.now = ap (λ r. entries (tree_at r)) c.take.ensures.value ∙ ap entries c.self.view_is in
    let same : c.plan.inside.pair ≡ c.args.plan.pair = ap (λ p. p.pair) c.plan.view_is in
    contents-insert c.args.self.now c.insert_top-root.result.value c.args.plan.pair c.args.mark c.requires.absent (e.entries
    ∙ ap (λ w. insert_entry w (record { pair = c.plan.inside.pair; mark = c.args.mark })) seen
    ∙ ap (λ p. insert_entry (entries c.args.self.now) (record { pair = p; mark = c.args.mark })) same)
