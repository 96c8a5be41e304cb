use Rattle.std.proofs.Common.{◌∙◌, sym, ap, subst, ◌≡◌, length}
use Rattle.std.proofs.lemmas.Bool.{eqb-true, eq-eqb}
use Rattle.node_parts.specs.Tree.{entries}
use Rattle.node_parts.specs.Order.{IsAscending}
use Rattle.btree_node.proofs.Contents.{empty_of-contents, length_of-empty}
use Rattle.btree_node.proofs.BTree.is_empty.Goals as goal

pub returns : goal.returns
returns g c =
    let up : IsAscending (entries c.args.self.now) = subst (λ t. IsAscending (entries t)) c.self.view_is c.self.invariant.ascending in
    let n : c.self.inside.len ≡ length (entries c.args.self.now) = c.self.invariant.counted ∙ ap (λ t. length (entries t)) c.self.view_is in
    (λ h. empty_of-contents _ up (sym n ∙ eqb-true _ _ h), λ e. eq-eqb _ _ (n ∙ length_of-empty _ up e))
