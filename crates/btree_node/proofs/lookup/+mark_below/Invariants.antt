use Rattle.node_parts.specs.Tree.{depth}
use Rattle.btree_node.proofs.lookup.+mark_below.Given as goal

abbrev pub decreases-mark_below : goal.decreases-mark_below
decreases-mark_below g l = depth l.way.now.node
