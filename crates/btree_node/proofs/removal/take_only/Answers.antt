use Rattle.std.proofs.Common.{rules, ◌∙◌, sym, refl, ◌≡◌, length, vec_len}
use Rattle.node_parts.proofs.Children.{seen_inner}
use Rattle.node_parts.proofs.RowLemmas.{length-trees}
use Rattle.btree_node.proofs.removal.take_only.Goals as goal

-- src/lib.rt:471:9
pub returns-then-len-ne1 : goal.returns-then-len-ne1
returns-then-len-ne1 g c =
    let v = seen_inner _ _ _ c.node.view_is c.in-Inner.is in
    let n : length c.in-Inner.row.items ≡ vec_len c.in-Inner.row = search rules in
    rw v (refl, λ e. c.if-len-ne1.true (c.len.ensures ∙ sym n ∙ sym (length-trees c.in-Inner.row.items) ∙ e))
