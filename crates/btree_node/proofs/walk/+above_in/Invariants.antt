use Rattle.node_parts.specs.Tree.{depth}
use Rattle.btree_node.proofs.walk.+above_in.Given as goal

abbrev pub decreases-above_in : goal.decreases-above_in
decreases-above_in g l = depth l.node.now
