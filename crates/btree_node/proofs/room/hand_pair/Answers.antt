use Rattle.std.proofs.Common.{arith, ◌∙◌, ap, ◌≡◌, ◌<◌, Some}
use Rattle.node_parts.specs.Tree.{entries, count}
use Rattle.node_parts.specs.Seen.{least_of}
use Rattle.node_parts.proofs.Neighbours.{front_label}
use Rattle.btree_node.proofs.Handing.{leaf_some}
use Rattle.btree_node.proofs.room.hand_pair.Goals as goal

pub least-full-requires : goal.least-full-requires
least-full-requires g c =
    let old : count c.deref_mut.result.now ≡ 32 = ap count c.deref_mut.ensures.value ∙ c.requires.ready.1 in
    let some : 0 < count c.hand_left.new.self = omega (arith, c.hand_left.ensures.count, old) in
    record { some = rw c.deref.ensures (leaf_some _ c.hand_left.ensures.leaf some) }

pub returns-clause-label : goal.returns-clause-label
returns-clause-label g c =
    let old : least_of (entries c.deref_mut-2.result.now) ≡ Some c.args.left.now.least = rw c.deref_mut-2.ensures.value c.requires.label in
    let some : 0 < count c.hand_left.new.left = omega (arith, c.hand_left.ensures.left_count) in
    front_label _ _ _ _ _ c.hand_left.ensures.joined (leaf_some _ c.hand_left.ensures.left_leaf some) old
