use Rattle.std.proofs.Common.{rules, not, ◌∙◌, subst}
use Rattle.std.specs.Slice.{IsItemAt}
use Rattle.std.proofs.lemmas.List.Sorted.{IsPartitionPoint-from_clause}
use Rattle.node_parts.specs.Order.{is_below}
use Rattle.node_parts.proofs.Places.{prefix_len-partition, partitioned-after}
use Rattle.btree_node.proofs.Found.{first-at}
use Rattle.btree_node.proofs.walk.first_after.Goals as goal

pub returns : goal.returns
returns c =
    let parted = partitioned-after c.args.pair.now c.args.row.now c.requires.ascending in
    let point = IsPartitionPoint-from_clause (λ e. not (is_below c.args.pair.now e.pair)) _ _ c.partition_point-at.ensures.partitioned parted (λ a r q k.
    search rules) in
    let place = prefix_len-partition (λ e. not (is_below c.args.pair.now e.pair)) _ _ c.partition_point-at.ensures.bound point in
    c.copied.ensures ∙ first-at c.args.row.now c.args.pair.now c.get.result (subst (λ n. IsItemAt c.args.row.now n c.get.result) place c.get.ensures.lookup)
