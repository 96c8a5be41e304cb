use Rattle.std.proofs.Common.{rules, arith, ◌∙◌, sym, ap, subst, refl, ◌≡◌, ◌<◌, length}
use Rattle.node_parts.specs.Tree.{entries, depth}
use Rattle.node_parts.specs.Order.{IsAscending}
use Rattle.node_parts.proofs.Balance.{at_most_seven, at_most_six, at_most_four}
use Rattle.btree_node.specs.Top.{tree_at, IsWholeTree}
use Rattle.btree_node.proofs.Top.{root_some, root_deep}
use Rattle.btree_node.proofs.Contents.{empty_of-contents, length_of-empty, len-contents}
use Rattle.btree_node.proofs.BTree.height.Goals as goal

pub levels-requires-clause-some : goal.levels-requires-clause-some
levels-requires-clause-some g c =
    let whole = subst IsWholeTree c.in-Some.is c.self.invariant.whole in
    rw c.deref.ensures (root_some _ _ whole)

pub levels-requires-clause-low : goal.levels-requires-clause-low
levels-requires-clause-low g c =
    let whole = subst IsWholeTree c.in-Some.is c.self.invariant.whole in
    let few = at_most_seven _ _ whole (omega (arith, c.self.invariant.counted, c.self.invariant.few, ap (λ r. length (entries (tree_at r))) c.in-Some.is)) in
    rw c.deref.ensures (omega (arith, few))

pub returns-in-None-clause-empty : goal.returns-in-None-clause-empty
returns-in-None-clause-empty g c =
    let up : IsAscending (entries c.args.self.now) = subst (λ t. IsAscending (entries t)) c.self.view_is c.self.invariant.ascending in
    (λ _. empty_of-contents _ up (ap (λ t. length (entries t)) (sym c.self.view_is ∙ ap tree_at c.in-None.is)), λ _. refl)

pub returns-in-Some-clause-low : goal.returns-in-Some-clause-low
returns-in-Some-clause-low g c =
    let whole = subst IsWholeTree c.in-Some.is c.self.invariant.whole in
    let few = at_most_seven _ _ whole (omega (arith, c.self.invariant.counted, c.self.invariant.few, ap (λ r. length (entries (tree_at r))) c.in-Some.is)) in
    omega (arith, few, c.levels.ensures, ap depth c.deref.ensures)

pub returns-in-Some-clause-empty : goal.returns-in-Some-clause-empty
returns-in-Some-clause-empty g c =
    let up : IsAscending (entries c.args.self.now) = subst (λ t. IsAscending (entries t)) c.self.view_is c.self.invariant.ascending in
    let whole = subst IsWholeTree c.in-Some.is c.self.invariant.whole in
    let deep : 0 < depth c.in-Some.root.value = root_deep c.in-Some.root.value in
    let some : 0 < length (entries c.in-Some.root.value) = root_some _ _ whole in
    let same : length (entries c.args.self.now) ≡ length (entries c.in-Some.root.value) =
    ap (λ t. length (entries t)) (sym c.self.view_is ∙ ap tree_at c.in-Some.is) in
    (λ z. absurd (omega (arith, z, c.levels.ensures, ap depth c.deref.ensures, deep)), λ e. absurd (omega (arith, length_of-empty _ up e, same, some)))

pub returns-in-Some-clause-height : goal.returns-in-Some-clause-height
returns-in-Some-clause-height g c = search rules

pub returns-in-Some-clause-small : goal.returns-in-Some-clause-small
returns-in-Some-clause-small g c few =
    let whole = subst IsWholeTree c.in-Some.is c.self.invariant.whole in
    let up : IsAscending (entries c.args.self.now) = subst (λ t. IsAscending (entries t)) c.self.view_is c.self.invariant.ascending in
    let same : length (entries c.args.self.now) ≡ length (entries c.in-Some.root.value) =
    ap (λ t. length (entries t)) (sym c.self.view_is ∙ ap tree_at c.in-Some.is) in
    let low = at_most_four _ _ whole (omega (arith, few, len-contents c.args.self.now up, same)) in
    omega (arith, low, c.levels.ensures, ap depth c.deref.ensures)

pub returns-in-Some-clause-large : goal.returns-in-Some-clause-large
returns-in-Some-clause-large g c few =
    let whole = subst IsWholeTree c.in-Some.is c.self.invariant.whole in
    let up : IsAscending (entries c.args.self.now) = subst (λ t. IsAscending (entries t)) c.self.view_is c.self.invariant.ascending in
    let same : length (entries c.args.self.now) ≡ length (entries c.in-Some.root.value) =
    ap (λ t. length (entries t)) (sym c.self.view_is ∙ ap tree_at c.in-Some.is) in
    let low = at_most_six _ _ whole (omega (arith, few, len-contents c.args.self.now up, same)) in
    omega (arith, low, c.levels.ensures, ap depth c.deref.ensures)
