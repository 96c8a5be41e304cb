use Rattle.node_parts.specs.Tree.{depth}
use Rattle.btree_node.proofs.lookup.+way_to.Given as goal

abbrev pub decreases-way_to : goal.decreases-way_to
decreases-way_to g l = depth l.way.now.node
