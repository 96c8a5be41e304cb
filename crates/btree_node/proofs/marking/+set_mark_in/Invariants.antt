use Rattle.node_parts.specs.Tree.{depth}
use Rattle.btree_node.proofs.marking.+set_mark_in.Given as goal

abbrev pub decreases-set_mark_in : goal.decreases-set_mark_in
decreases-set_mark_in g l = depth l.node.now
