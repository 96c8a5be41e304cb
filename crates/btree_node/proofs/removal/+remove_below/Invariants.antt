use Rattle.node_parts.specs.Tree.{depth}
use Rattle.btree_node.proofs.removal.+remove_below.Given as goal

abbrev pub decreases-remove_below : goal.decreases-remove_below
decreases-remove_below g l = depth l.node.now
