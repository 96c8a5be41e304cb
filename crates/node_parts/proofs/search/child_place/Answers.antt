use Rattle.std.proofs.Common.{rules, not, false, sym, ap, ◌∙◌, ◌≡◌}
use Rattle.std.proofs.lemmas.List.Sorted.{IsPartitionPoint-from_clause}
use Rattle.node_parts.specs.Order.{is_below}
use Rattle.node_parts.proofs.Places.{prefix_len-all, prefix_len-partition, partitioned-children}
use Rattle.node_parts.proofs.search.child_place.Goals as goal

pub returns-in_default-clause-place : goal.returns-in_default-clause-place
returns-in_default-clause-place g c =
    let parted = partitioned-children c.args.pair.now c.args.row.now c.requires.labelled c.requires.ascending in
    let point = IsPartitionPoint-from_clause (λ e. not (is_below c.args.pair.now e.least)) _ _ c.partition_point.ensures.partitioned parted (λ a r q k.
    search rules) in
    prefix_len-partition (λ e. not (is_below c.args.pair.now e.least)) _ _ c.partition_point.ensures.bound point

pub returns-in-Some-clause-place : goal.returns-in-Some-clause-place
returns-in-Some-clause-place g c =
    let parted = partitioned-children c.args.pair.now c.args.row.now c.requires.labelled c.requires.ascending in
    let fails : c.precedes.result ≡ false = search (rules, c.if-not-precedes.true) in
    prefix_len-all (λ e. not (is_below c.args.pair.now e.least)) _ c.in-Some.last.now parted c.in-Some.ensures.item.3.0 c.in-Some.ensures.item.3.1
    (ap not (sym c.precedes.ensures ∙ fails))
