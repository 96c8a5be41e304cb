use Rattle.btree_node.proofs.Labels.{lower_of}
use Rattle.btree_node.proofs.insertion.lower.Goals as goal

pub returns-then-at-gt0 : goal.returns-then-at-gt0
returns-then-at-gt0 c = lower_of c.args.least.now c.args.pair (c.requires.belongs c.if-at-gt0.true)
