use Rattle.node_parts.specs.Tree.{depth}
use Rattle.btree_node.proofs.walk.+below_in.Given as goal

abbrev pub decreases-below_in : goal.decreases-below_in
decreases-below_in g l = depth l.node.now
