use Rattle.btree_node.proofs.At.{not_empty}
use Rattle.btree_node.proofs.insertion.join.Goals as goal

-- src/lib.rt:196:9
pub least-least-requires : goal.least-least-requires
least-least-requires g c =
    record { some = rw c.deref.ensures (not_empty _ _ c.requires.tree c.requires.low) }
