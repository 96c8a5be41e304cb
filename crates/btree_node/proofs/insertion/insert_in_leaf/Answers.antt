use Rattle.std.proofs.Common.{arith, ◌≤◌, ◌∙◌, ap}
use Rattle.std.proofs.lemmas.List.{append-nil}
use Rattle.node_parts.specs.Tree.{entries, count}
use Rattle.btree_node.proofs.Leaves.{leaf_place, leaf_insert}
use Rattle.btree_node.proofs.insertion.insert_in_leaf.Goals as goal

pub insert_at-requires-clause-in_range : goal.insert_at-requires-clause-in_range
insert_at-requires-clause-in_range g c = leaf_place _ _ _ c.requires.leaf c.requires.place

pub returns-then-count-lt-FULL-clause-entries : goal.returns-then-count-lt-FULL-clause-entries
returns-then-count-lt-FULL-clause-entries g c =
    append-nil _ ∙ ap entries c.insert_at.ensures ∙ leaf_insert _ _ _ c.requires.leaf c.requires.place

pub split_into-requires-clause-in_range : goal.split_into-requires-clause-in_range
split_into-requires-clause-in_range g c =
    let place : c.args.at ≤ count c.args.leaf.now = leaf_place _ _ _ c.requires.leaf c.requires.place in
    omega (arith, place, c.count.ensures.count, c.count.ensures.most)

pub returns-clause-entries : goal.returns-clause-entries
returns-clause-entries g c =
    c.split_into.ensures.joined ∙ leaf_insert _ _ _ c.requires.leaf c.requires.place
