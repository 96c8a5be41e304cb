use Rattle.node_parts.specs.Tree.{depth}
use Rattle.btree_node.proofs.walk.+first_in.Given as goal

abbrev pub decreases-first_in : goal.decreases-first_in
decreases-first_in g l = depth l.node.now
