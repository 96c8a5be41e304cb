use Rattle.node_parts.specs.Tree.{depth}
use Rattle.btree_node.proofs.runs.+first_run.Given as goal

abbrev pub decreases-first_run : goal.decreases-first_run
decreases-first_run g l = depth l.node.now
