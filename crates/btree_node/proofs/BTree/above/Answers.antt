use Rattle.std.proofs.Common.{◌∙◌, sym, ap, subst, Some, None, ◌≡◌}
use Rattle.std.specs.Option.{option_copied}
use Rattle.node_parts.specs.Tree.{entries}
use Rattle.node_parts.specs.Order.{IsAscending}
use Rattle.btree_node.specs.Above.{IsLeastAbove, first_of, first_above}
use Rattle.btree_node.specs.Contents.{contents}
use Rattle.btree_node.specs.Top.{tree_at, IsWholeTree}
use Rattle.btree_node.proofs.Top.{root_some}
use Rattle.btree_node.proofs.Contents.{least-empty, least-none, least-after, least-first}
use Rattle.btree_node.proofs.BTree.above.Goals as goal
use Rattle.btree_node.proofs.BTree.above.Goals.{in-None, in-Some-pair+in_ok-entry-in-Some-pair}

pub returns-in_default : goal.returns-in_default
returns-in_default g c = least-empty c.args.self.now (option_copied c.args.pair) (ap entries (sym c.self.view_is ∙ ap tree_at c.in_default.is))

pub first_in-entry-requires : goal.first_in-entry-requires
first_in-entry-requires g c =
    let whole = subst IsWholeTree c.in-Some.is c.self.invariant.whole in
    record { some = rw c.deref.ensures (root_some _ _ whole) }

pub above_in-requires-clause-some : goal.above_in-requires-clause-some
above_in-requires-clause-some g c =
    let whole = subst IsWholeTree c.in-Some.is c.self.invariant.whole in
    rw c.deref-in-Some-pair.ensures (root_some _ _ whole)

pub returns-in_err-entry-in-Some-pair : goal.returns-in_err-entry-in-Some-pair
returns-in_err-entry-in-Some-pair g c =
    let top = c.deref-in-Some-pair.ensures ∙ sym (ap tree_at c.in-Some.is) ∙ c.self.view_is in
    let none : first_above (entries c.args.self.now) c.in-Some-pair.pair.now ≡ None = ap (λ t. first_above (entries t) c.in-Some-pair.pair.now) (sym top)
    ∙ sym c.in_err-entry-in-Some-pair.ensures in
    rw (c.in-Some-pair.is, c.from_residual.ensures) (least-none c.args.self.now c.in-Some-pair.pair.now none)

pub returns : goal.returns
returns g c =
    let up : IsAscending (entries c.args.self.now) = subst (λ t. IsAscending (entries t)) c.self.view_is c.self.invariant.ascending in
    elim c.match-pair.branch [
      | in-None w ↦
          let top = w.deref.ensures ∙ sym (ap tree_at c.in-Some.is) ∙ c.self.view_is in
          let first : first_of (entries c.args.self.now) ≡ Some w.first_in-entry.result = ap (λ t. first_of (entries t)) (sym top) ∙ w.first_in-entry.ensures in
          subst (λ e. IsLeastAbove (contents c.args.self.now) (option_copied c.args.pair) (Some (e.pair, e.mark))) (sym w.entry-is)
          (subst (λ p. IsLeastAbove (contents c.args.self.now) (option_copied p) (Some (w.first_in-entry.result.pair, w.first_in-entry.result.mark)))
          (sym w.in-None.is) (least-first c.args.self.now w.first_in-entry.result up first))
      | in-Some-pair+in_ok-entry-in-Some-pair w ↦
          let top = w.deref-in-Some-pair.ensures ∙ sym (ap tree_at c.in-Some.is) ∙ c.self.view_is in
          let found : first_above (entries c.args.self.now) w.in-Some-pair.pair.now ≡ Some w.in_ok-entry-in-Some-pair.entry =
          ap (λ t. first_above (entries t) w.in-Some-pair.pair.now) (sym top) ∙ sym w.in_ok-entry-in-Some-pair.ensures in
          subst (λ e. IsLeastAbove (contents c.args.self.now) (option_copied c.args.pair) (Some (e.pair, e.mark))) (sym w.entry-is)
          (subst (λ p. IsLeastAbove (contents c.args.self.now) (option_copied p)
          (Some (w.in_ok-entry-in-Some-pair.entry.pair, w.in_ok-entry-in-Some-pair.entry.mark))) (sym w.in-Some-pair.is)
          (least-after c.args.self.now w.in-Some-pair.pair.now w.in_ok-entry-in-Some-pair.entry up found))
    ]
