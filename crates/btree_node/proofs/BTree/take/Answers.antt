use Rattle.std.proofs.Common.{ap, ◌∙◌}
use Rattle.btree_node.specs.Contents.{contents}
use Rattle.btree_node.specs.Top.{tree_at}
use Rattle.btree_node.proofs.Contents.{contents-empty}
use Rattle.btree_node.proofs.BTree.take.Goals as goal

pub returns-clause-empty : goal.returns-clause-empty
returns-clause-empty g c = ap (λ root. contents (tree_at root)) c.take.ensures.after ∙ contents-empty
