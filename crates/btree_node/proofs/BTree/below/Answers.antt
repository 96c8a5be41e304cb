use Rattle.std.proofs.Common.{◌∙◌, sym, ap, subst, Some, None, ◌≡◌}
use Rattle.std.specs.List.{last_or}
use Rattle.std.specs.Option.{option_copied}
use Rattle.node_parts.specs.Tree.{entries}
use Rattle.node_parts.specs.Order.{IsAscending}
use Rattle.btree_node.specs.Below.{IsGreatestBelow, last_below}
use Rattle.btree_node.specs.Contents.{contents}
use Rattle.btree_node.specs.Top.{tree_at, IsWholeTree}
use Rattle.btree_node.proofs.Top.{root_some}
use Rattle.btree_node.proofs.Below.{greatest-before, greatest-empty, greatest-last, greatest-none}
use Rattle.btree_node.proofs.BTree.below.Goals as goal
use Rattle.btree_node.proofs.BTree.below.Goals.{in-None, in-Some-pair+in_ok-entry-in-Some-pair}

pub returns-in_default : goal.returns-in_default
returns-in_default g c = greatest-empty c.args.self.now (option_copied c.args.pair) (ap entries (sym c.self.view_is ∙ ap tree_at c.in_default.is))

pub last_in-entry-requires : goal.last_in-entry-requires
last_in-entry-requires g c =
    let whole = subst IsWholeTree c.in-Some.is c.self.invariant.whole in
    record { some = rw c.deref.ensures (root_some _ _ whole) }

pub below_in-requires-clause-some : goal.below_in-requires-clause-some
below_in-requires-clause-some g c =
    let whole = subst IsWholeTree c.in-Some.is c.self.invariant.whole in
    rw c.deref-in-Some-pair.ensures (root_some _ _ whole)

pub returns-in_err-entry-in-Some-pair : goal.returns-in_err-entry-in-Some-pair
returns-in_err-entry-in-Some-pair g c =
    let top = c.deref-in-Some-pair.ensures ∙ sym (ap tree_at c.in-Some.is) ∙ c.self.view_is in
    let none : last_below (entries c.args.self.now) c.in-Some-pair.pair.now ≡ None = ap (λ t. last_below (entries t) c.in-Some-pair.pair.now) (sym top)
    ∙ sym c.in_err-entry-in-Some-pair.ensures in
    rw (c.in-Some-pair.is, c.from_residual.ensures) (greatest-none c.args.self.now c.in-Some-pair.pair.now none)

pub returns : goal.returns
returns g c =
    let up : IsAscending (entries c.args.self.now) = subst (λ t. IsAscending (entries t)) c.self.view_is c.self.invariant.ascending in
    elim c.match-pair.branch [
      | in-None w ↦
          let top = w.deref.ensures ∙ sym (ap tree_at c.in-Some.is) ∙ c.self.view_is in
          let last : last_or None (entries c.args.self.now) ≡ Some w.last_in-entry.result =
          ap (λ t. last_or None (entries t)) (sym top) ∙ w.last_in-entry.ensures in
          subst (λ e. IsGreatestBelow (contents c.args.self.now) (option_copied c.args.pair) (Some (e.pair, e.mark))) (sym w.entry-is)
          (subst (λ p. IsGreatestBelow (contents c.args.self.now) (option_copied p) (Some (w.last_in-entry.result.pair, w.last_in-entry.result.mark)))
          (sym w.in-None.is) (greatest-last c.args.self.now w.last_in-entry.result up last))
      | in-Some-pair+in_ok-entry-in-Some-pair w ↦
          let top = w.deref-in-Some-pair.ensures ∙ sym (ap tree_at c.in-Some.is) ∙ c.self.view_is in
          let found : last_below (entries c.args.self.now) w.in-Some-pair.pair.now ≡ Some w.in_ok-entry-in-Some-pair.entry =
          ap (λ t. last_below (entries t) w.in-Some-pair.pair.now) (sym top) ∙ sym w.in_ok-entry-in-Some-pair.ensures in
          subst (λ e. IsGreatestBelow (contents c.args.self.now) (option_copied c.args.pair) (Some (e.pair, e.mark))) (sym w.entry-is)
          (subst (λ p. IsGreatestBelow (contents c.args.self.now) (option_copied p)
          (Some (w.in_ok-entry-in-Some-pair.entry.pair, w.in_ok-entry-in-Some-pair.entry.mark))) (sym w.in-Some-pair.is)
          (greatest-before c.args.self.now w.in-Some-pair.pair.now w.in_ok-entry-in-Some-pair.entry up found))
    ]
