use Rattle.node_parts.specs.Tree.{depth}
use Rattle.btree_node.proofs.room.+make_room_below.Given as goal

abbrev pub decreases-make_room_below : goal.decreases-make_room_below
decreases-make_room_below g l = depth l.node.now
