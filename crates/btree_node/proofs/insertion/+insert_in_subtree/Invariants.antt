use Rattle.node_parts.specs.Tree.{depth}
use Rattle.btree_node.proofs.insertion.+insert_in_subtree.Given as goal

abbrev pub decreases-insert_in_subtree : goal.decreases-insert_in_subtree
decreases-insert_in_subtree g l = depth l.node.now
