use Rattle.std.proofs.Common.{◌≡◌, ◌+◌, ◌++◌, vec_len, vec_capacity, length}
use Rattle.std.specs.Vec.Iter.{drain_items}
use Rattle.node_parts.proofs.rows.move_front.Given as goal

abbrev pub invariant-loop-item : goal.invariant-loop-item
invariant-loop-item g l = record {
  can_next : (goal.iterator-loop-item g).can_next l.item-iterator;
  finite : (goal.iterator-loop-item g).is_finite l.item-iterator;
  moved : l.left.items ≡ l.initial.left.items ++ l.yielded;
  len : vec_len l.left ≡ vec_len l.initial.left + length l.yielded;
  capacity : vec_capacity l.left ≡ vec_capacity l.initial.left;
  rest : l.yielded ++ drain_items l.item-iterator ≡ drain_items l.initial.item-iterator;
}
