use Rattle.std.proofs.Common.{◌≡◌, vec_len, vec_capacity}
use Rattle.std.specs.List.{All}
use Rattle.node_parts.specs.Tree.{an_empty_inner}
use Rattle.btree_node.proofs.spares.inner_nodes.Given as goal

abbrev pub invariant-loop : goal.invariant-loop
invariant-loop g l = record {
  len : vec_len l.nodes ≡ l.counter;
  room : vec_capacity l.nodes ≡ l.count;
  empty : All (λ b. b.value ≡ an_empty_inner) l.nodes.items;
}
