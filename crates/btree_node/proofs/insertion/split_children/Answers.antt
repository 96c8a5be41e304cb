use Rattle.std.proofs.Common.{rules, arith, ◌≡◌, ◌++◌, ◌∙◌, sym, ap, length, vec_len}
use Rattle.node_parts.specs.Tree.{trees_of-forest_of}
use Rattle.node_parts.specs.Rows.{trees}
use Rattle.node_parts.specs.Seen.{AreLabelled}
use Rattle.node_parts.proofs.RowLemmas.{no_children, trees-append, trees-insert, labelled-left, labelled-right, labelled-insert, length-trees}
use Rattle.btree_node.proofs.insertion.split_children.Goals as goal

pub split_into-requires-clause-empty : goal.split_into-requires-clause-empty
split_into-requires-clause-empty g c = no_children _ _ _ c.upper.view_is c.in-Inner.is c.requires.empty

pub invariant_of-upper : goal.invariant_of-upper
invariant_of-upper g c =
    let l : AreLabelled (c.split_into.new.row.items ++ c.split_into.new.upper.items) =
    rw c.split_into.ensures.joined (labelled-insert c.args.row.now.items c.args.place c.args.child c.requires.labelled c.requires.label) in
    (search rules, search rules, labelled-right c.split_into.new.row.items _ l)

pub returns-clause-joined : goal.returns-clause-joined
returns-clause-joined g c =
    ap (λ w. trees c.split_into.new.row.items ++ w) (trees_of-forest_of (trees c.split_into.new.upper.items))
    ∙ sym (trees-append c.split_into.new.row.items c.split_into.new.upper.items)
    ∙ ap trees c.split_into.ensures.joined
    ∙ trees-insert c.args.row.now.items c.args.place c.args.child

pub returns-clause-labelled : goal.returns-clause-labelled
returns-clause-labelled g c =
    let l : AreLabelled (c.split_into.new.row.items ++ c.split_into.new.upper.items) =
    rw c.split_into.ensures.joined (labelled-insert c.args.row.now.items c.args.place c.args.child c.requires.labelled c.requires.label) in
    labelled-left _ c.split_into.new.upper.items l

pub returns-clause-upper_low : goal.returns-clause-upper_low
returns-clause-upper_low g c =
    let n : length c.split_into.new.upper.items ≡ vec_len c.split_into.new.upper = search rules in
    omega (arith, length-trees c.split_into.new.upper.items, c.split_into.ensures.upper_low)

pub returns-clause-all : goal.returns-clause-all
returns-clause-all g c =
    let n : length c.split_into.new.upper.items ≡ vec_len c.split_into.new.upper = search rules in
    omega (arith, length-trees c.split_into.new.upper.items, c.split_into.ensures.all)
