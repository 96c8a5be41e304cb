use Rattle.std.proofs.Common.{◌∙◌, sym, ap, subst, None}
use Rattle.std.specs.Option.{option_copied}
use Rattle.node_parts.specs.Tree.{entries}
use Rattle.node_parts.specs.Order.{IsAscending}
use Rattle.btree_node.specs.Above.{IsLeastAbove}
use Rattle.btree_node.specs.Contents.{contents}
use Rattle.btree_node.specs.Runs.{IsFront, IsRunAbove, all_above}
use Rattle.btree_node.specs.Top.{tree_at, IsWholeTree}
use Rattle.btree_node.proofs.Top.{root_some}
use Rattle.btree_node.proofs.Contents.{least-empty}
use Rattle.btree_node.proofs.Fronts.{none-after, run-after, run-first}
use Rattle.btree_node.proofs.BTree.run_above.Goals as goal

pub returns-in_default-clause-none : goal.returns-in_default-clause-none
returns-in_default-clause-none g c = λ none. least-empty c.args.self.now (option_copied c.args.pair)
    (ap entries (sym c.self.view_is ∙ ap tree_at c.in_default.is))

pub first_run-requires : goal.first_run-requires
first_run-requires g c =
    let whole = subst IsWholeTree c.in-Some.is c.self.invariant.whole in
    record { some = rw c.deref.ensures (root_some _ _ whole) }

pub run_in-requires-clause-some : goal.run_in-requires-clause-some
run_in-requires-clause-some g c =
    let whole = subst IsWholeTree c.in-Some.is c.self.invariant.whole in
    rw c.deref-in-Some-pair.ensures (root_some _ _ whole)

pub returns-in-None-clause-run : goal.returns-in-None-clause-run
returns-in-None-clause-run g c =
    let up : IsAscending (entries c.args.self.now) = subst (λ t. IsAscending (entries t)) c.self.view_is c.self.invariant.ascending in
    let top = c.deref.ensures ∙ sym (ap tree_at c.in-Some.is) ∙ c.self.view_is in
    let front = subst (λ t. IsFront (entries t) c.first_run.result.now) top c.first_run.ensures in
    subst (λ p. IsRunAbove (contents c.args.self.now) (option_copied p) c.first_run.result.now) (sym c.in-None.is)
    (run-first c.args.self.now c.first_run.result.now up front)

pub returns-in-None-clause-none : goal.returns-in-None-clause-none
returns-in-None-clause-none g c = λ none.
    let top = c.deref.ensures ∙ sym (ap tree_at c.in-Some.is) ∙ c.self.view_is in
    least-empty c.args.self.now (option_copied c.args.pair) (sym (ap entries top) ∙ c.first_run.ensures.none none)

pub returns-in-Some-pair-clause-run : goal.returns-in-Some-pair-clause-run
returns-in-Some-pair-clause-run g c =
    let up : IsAscending (entries c.args.self.now) = subst (λ t. IsAscending (entries t)) c.self.view_is c.self.invariant.ascending in
    let top = c.deref-in-Some-pair.ensures ∙ sym (ap tree_at c.in-Some.is) ∙ c.self.view_is in
    let front = subst (λ t. IsFront (all_above (entries t) c.in-Some-pair.pair.now) c.run_in.result.now) top c.run_in.ensures in
    subst (λ p. IsRunAbove (contents c.args.self.now) (option_copied p) c.run_in.result.now) (sym c.in-Some-pair.is)
    (run-after c.args.self.now c.in-Some-pair.pair.now c.run_in.result.now up front)

pub returns-in-Some-pair-clause-none : goal.returns-in-Some-pair-clause-none
returns-in-Some-pair-clause-none g c = λ none.
    let top = c.deref-in-Some-pair.ensures ∙ sym (ap tree_at c.in-Some.is) ∙ c.self.view_is in
    let front = subst (λ t. IsFront (all_above (entries t) c.in-Some-pair.pair.now) c.run_in.result.now) top c.run_in.ensures in
    subst (λ p. IsLeastAbove (contents c.args.self.now) (option_copied p) None) (sym c.in-Some-pair.is)
    (none-after c.args.self.now c.in-Some-pair.pair.now c.run_in.result.now front none)
