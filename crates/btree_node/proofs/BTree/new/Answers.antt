use Rattle.std.proofs.Common.{rules}
use Rattle.btree_node.proofs.Contents.{contents-empty}
use Rattle.btree_node.proofs.BTree.new.Goals as goal

pub returns-clause-empty : goal.returns-clause-empty
returns-clause-empty g c = contents-empty

pub invariant_of-result : goal.invariant_of-result
invariant_of-result g c = search rules
