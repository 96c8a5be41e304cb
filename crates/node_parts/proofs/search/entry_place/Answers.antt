use Rattle.std.proofs.Common.{rules, sym, ◌∙◌}
use Rattle.std.proofs.lemmas.List.Sorted.{IsPartitionPoint-from_clause}
use Rattle.node_parts.specs.Order.{is_below}
use Rattle.node_parts.proofs.Places.{prefix_len-all, prefix_len-partition, partitioned-entries}
use Rattle.node_parts.proofs.search.entry_place.Goals as goal

pub returns-in_default-clause-place : goal.returns-in_default-clause-place
returns-in_default-clause-place c =
    let parted = partitioned-entries c.args.pair.now c.args.row.now c.requires.ascending in
    let point = IsPartitionPoint-from_clause (λ e. is_below e.pair c.args.pair.now) _ _ c.partition_point.ensures.partitioned parted (λ a r q k.
    search rules) in
    prefix_len-partition (λ e. is_below e.pair c.args.pair.now) _ _ c.partition_point.ensures.bound point

pub returns-in-Some-clause-place : goal.returns-in-Some-clause-place
returns-in-Some-clause-place c =
    let parted = partitioned-entries c.args.pair.now c.args.row.now c.requires.ascending in
    prefix_len-all (λ e. is_below e.pair c.args.pair.now) _ c.in-Some.last.now parted c.in-Some.ensures.item.3.0 c.in-Some.ensures.item.3.1
    (sym c.precedes.ensures ∙ c.if-precedes.true)
