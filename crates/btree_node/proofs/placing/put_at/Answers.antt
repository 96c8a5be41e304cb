use Rattle.std.proofs.Common.{rules, arith, ◌∙◌, ap, ◌≡◌, length, vec_len}
use Rattle.std.specs.List.{insert}
use Rattle.node_parts.specs.declared.Entry.{Entry}
use Rattle.node_parts.specs.Order.{is_below}
use Rattle.node_parts.proofs.Order.{insert-at_place}
use Rattle.btree_node.proofs.At.{prefix_len-upto}
use Rattle.btree_node.proofs.placing.put_at.Goals as goal

pub insert_at-requires-clause-in_range : goal.insert_at-requires-clause-in_range
insert_at-requires-clause-in_range g c =
    let o : length c.args.row.now.items ≡ vec_len c.args.row.now = search rules in
    omega (arith, o, c.requires.place, prefix_len-upto (λ (e : Entry). is_below e.pair c.args.pair.now) c.args.row.now.items)

pub returns-clause-added : goal.returns-clause-added
returns-clause-added g c =
    let entry : Entry = record { pair = c.args.pair.now; mark = c.args.mark } in
    λ _. c.insert_at.ensures.items ∙ ap (λ n. insert c.args.row.now.items n entry) c.requires.place ∙ insert-at_place c.args.row.now.items entry
