use Rattle.node_parts.specs.Tree.{depth}
use Rattle.btree_node.proofs.walk.+last_in.Given as goal

abbrev pub decreases-last_in : goal.decreases-last_in
decreases-last_in g l = depth l.node.now
