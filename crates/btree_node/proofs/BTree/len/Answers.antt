use Rattle.std.proofs.Common.{◌∙◌, sym, ap, subst, length}
use Rattle.node_parts.specs.Tree.{entries}
use Rattle.node_parts.specs.Order.{IsAscending}
use Rattle.btree_node.proofs.Contents.{len-contents}
use Rattle.btree_node.proofs.BTree.len.Goals as goal

pub returns-clause-len : goal.returns-clause-len
returns-clause-len g c =
    c.self.invariant.counted ∙ ap (λ t. length (entries t)) c.self.view_is
    ∙ sym (len-contents _ (subst (λ t. IsAscending (entries t)) c.self.view_is c.self.invariant.ascending))
