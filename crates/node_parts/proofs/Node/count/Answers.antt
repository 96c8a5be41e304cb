use Rattle.std.proofs.Common.{rules, ◌∙◌, sym, ◌≡◌, length, vec_len}
use Rattle.node_parts.proofs.RowLemmas.{inner_is, count_of}
use Rattle.node_parts.proofs.Node.count.Goals as goal

pub returns-in-Inner-clause-count : goal.returns-in-Inner-clause-count
returns-in-Inner-clause-count g c =
    let n : length c.in-Inner.row.items ≡ vec_len c.in-Inner.row = search rules in
    c.len-in-Inner.ensures ∙ sym n ∙ sym (count_of _ _ (inner_is _ _ _ c.self.view_is c.in-Inner.is))

pub returns-in-Leaf-clause-count : goal.returns-in-Leaf-clause-count
returns-in-Leaf-clause-count g c = search rules
