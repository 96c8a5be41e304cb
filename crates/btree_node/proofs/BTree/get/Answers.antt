use Rattle.std.proofs.Common.{arith, ◌≡◌, ◌∙◌, sym, ap, subst, length}
use Rattle.node_parts.specs.Tree.{entries, depth}
use Rattle.node_parts.specs.Order.{mark_in}
use Rattle.node_parts.specs.Order.{IsAscending}
use Rattle.node_parts.proofs.Balance.{at_most_seven, at_most_six, at_most_four}
use Rattle.btree_node.specs.Top.{tree_at, IsWholeTree}
use Rattle.btree_node.proofs.Top.{root_some}
use Rattle.btree_node.proofs.Contents.{get-contents, len-contents}
use Rattle.btree_node.proofs.BTree.get.Goals as goal

pub mark_below-mark-requires-clause-some : goal.mark_below-mark-requires-clause-some
mark_below-mark-requires-clause-some g c =
    let whole = subst IsWholeTree c.in-Some.is c.self.invariant.whole in
    let node = ap (λ r. r.node) c.new-way.ensures ∙ c.deref.ensures in
    rw node (root_some _ _ whole)

pub mark_below-mark-requires-clause-low : goal.mark_below-mark-requires-clause-low
mark_below-mark-requires-clause-low g c =
    let whole = subst IsWholeTree c.in-Some.is c.self.invariant.whole in
    let few = at_most_seven _ _ whole (omega (arith, c.self.invariant.counted, c.self.invariant.few, ap (λ r. length (entries (tree_at r))) c.in-Some.is)) in
    let node = ap (λ r. r.node) c.new-way.ensures ∙ c.deref.ensures in
    omega (arith, few, ap depth node, ap (λ r. r.visits) c.new-way.ensures)

pub returns-in-None-clause-found : goal.returns-in-None-clause-found
returns-in-None-clause-found g c =
    ap (λ t. mark_in (entries t) c.args.pair.now) (sym (ap tree_at c.in-None.is) ∙ c.self.view_is) ∙ sym (get-contents _ _)

pub returns-in-Some-clause-found : goal.returns-in-Some-clause-found
returns-in-Some-clause-found g c =
    let node = ap (λ r. r.node) c.new-way.ensures ∙ c.deref.ensures in
    c.mark_below-mark.ensures.found ∙ ap (λ t. mark_in (entries t) c.args.pair.now) (node ∙ sym (ap tree_at c.in-Some.is) ∙ c.self.view_is)
    ∙ sym (get-contents _ _)

pub returns-in-Some-clause-few_visited : goal.returns-in-Some-clause-few_visited
returns-in-Some-clause-few_visited g c =
    let whole = subst IsWholeTree c.in-Some.is c.self.invariant.whole in
    let few = at_most_seven _ _ whole (omega (arith, c.self.invariant.counted, c.self.invariant.few, ap (λ r. length (entries (tree_at r))) c.in-Some.is)) in
    let node = ap (λ r. r.node) c.new-way.ensures ∙ c.deref.ensures in
    omega (arith, few, c.visits.ensures, c.mark_below-mark.ensures.visits, ap depth node, ap (λ r. r.visits) c.new-way.ensures)

pub returns-in-Some-clause-small : goal.returns-in-Some-clause-small
returns-in-Some-clause-small g c few =
    let whole = subst IsWholeTree c.in-Some.is c.self.invariant.whole in
    let up : IsAscending (entries c.args.self.now) = subst (λ t. IsAscending (entries t)) c.self.view_is c.self.invariant.ascending in
    let same : length (entries c.args.self.now) ≡ length (entries c.in-Some.root.value) =
    ap (λ t. length (entries t)) (sym c.self.view_is ∙ ap tree_at c.in-Some.is) in
    let low = at_most_four _ _ whole (omega (arith, few, len-contents c.args.self.now up, same)) in
    let node = ap (λ r. r.node) c.new-way.ensures ∙ c.deref.ensures in
    omega (arith, low, c.visits.ensures, c.mark_below-mark.ensures.visits, ap depth node, ap (λ r. r.visits) c.new-way.ensures)

pub returns-in-Some-clause-large : goal.returns-in-Some-clause-large
returns-in-Some-clause-large g c few =
    let whole = subst IsWholeTree c.in-Some.is c.self.invariant.whole in
    let up : IsAscending (entries c.args.self.now) = subst (λ t. IsAscending (entries t)) c.self.view_is c.self.invariant.ascending in
    let same : length (entries c.args.self.now) ≡ length (entries c.in-Some.root.value) =
    ap (λ t. length (entries t)) (sym c.self.view_is ∙ ap tree_at c.in-Some.is) in
    let low = at_most_six _ _ whole (omega (arith, few, len-contents c.args.self.now up, same)) in
    let node = ap (λ r. r.node) c.new-way.ensures ∙ c.deref.ensures in
    omega (arith, low, c.visits.ensures, c.mark_below-mark.ensures.visits, ap depth node, ap (λ r. r.visits) c.new-way.ensures)
