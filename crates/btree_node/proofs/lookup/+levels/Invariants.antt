use Rattle.node_parts.specs.Tree.{depth}
use Rattle.btree_node.proofs.lookup.+levels.Given as goal

abbrev pub decreases-levels : goal.decreases-levels
decreases-levels g l = depth l.node.now
