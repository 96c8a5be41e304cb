use Rattle.node_parts.specs.Tree.{depth}
use Rattle.btree_node.proofs.placing.+put_below.Given as goal

abbrev pub decreases-put_below : goal.decreases-put_below
decreases-put_below g l = depth l.node.now
