use Rattle.node_parts.specs.Tree.{depth}
use Rattle.btree_node.proofs.runs.+run_in.Given as goal

abbrev pub decreases-run_in : goal.decreases-run_in
decreases-run_in g l = depth l.node.now
