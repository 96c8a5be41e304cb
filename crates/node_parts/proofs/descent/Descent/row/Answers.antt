use Rattle.std.proofs.Common.{ap, subst, ◌∙◌, sym}
use Rattle.node_parts.specs.Tree.{IsLeaf}
use Rattle.node_parts.proofs.RowLemmas.{inner_is}
use Rattle.node_parts.proofs.descent.Descent.row.Goals as goal

pub unreachable-requires : goal.unreachable-requires
unreachable-requires g c =
    let seen = inner_is _ _ _ c.node.view_is c.in_default.is in
    subst IsLeaf (sym (ap (λ r. r.node) c.self.view_is) ∙ seen) c.requires.leaf

pub unreachable-unreachable : goal.unreachable-unreachable
unreachable-unreachable g c = c.unreachable.result
