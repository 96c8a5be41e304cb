use Rattle.std.proofs.Common.{rules, ap, drop, not, ◌∙◌}
use Rattle.std.proofs.lemmas.List.{take_rest}
use Rattle.std.proofs.lemmas.List.Sorted.{IsPartitionPoint-from_clause}
use Rattle.node_parts.specs.Order.{is_below}
use Rattle.node_parts.proofs.Places.{prefix_len-partition, partitioned-after}
use Rattle.btree_node.proofs.Fronts.{above-dropped}
use Rattle.btree_node.proofs.runs.rest_above.Goals as goal

pub returns : goal.returns
returns c =
    let parted = partitioned-after c.args.pair.now c.args.row.now c.requires.ascending in
    let point = IsPartitionPoint-from_clause (λ e. not (is_below c.args.pair.now e.pair)) _ _ c.partition_point-at.ensures.partitioned parted (λ a r q k.
    search rules) in
    let place = prefix_len-partition (λ e. not (is_below c.args.pair.now e.pair)) _ _ c.partition_point-at.ensures.bound point in
    take_rest c.args.row.now c.partition_point-at.result ∙ ap (λ n. drop n c.args.row.now) place ∙ above-dropped c.args.row.now c.args.pair.now
