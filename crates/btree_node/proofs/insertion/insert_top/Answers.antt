use Rattle.std.proofs.Common.{subst}
use Rattle.btree_node.specs.Top.{IsWholeTree}
use Rattle.btree_node.proofs.Top.{root_some, same_depth, depth_kept, root_again, root_own}
use Rattle.btree_node.proofs.insertion.insert_top.Goals as goal

pub insert_in_subtree-requires-clause-some : goal.insert_in_subtree-requires-clause-some
insert_in_subtree-requires-clause-some g c =
    let whole = subst IsWholeTree c.in-Some.is c.requires.whole in
    rw c.deref_mut.ensures.value (root_some _ _ whole)

pub join-requires-clause-tree : goal.join-requires-clause-tree
join-requires-clause-tree g c =
    let whole = subst IsWholeTree c.in-Some.is c.requires.whole in
    let e = c.in-Some-insert_in_subtree.ensures in
    same_depth _ _ e.tree e.count

pub join-requires-clause-upper : goal.join-requires-clause-upper
join-requires-clause-upper g c =
    let e = c.in-Some-insert_in_subtree.ensures in
    (e.upper.0, rw (depth_kept _ _ e.tree e.count) e.upper.1, e.upper.2)

pub returns-in-None-insert_in_subtree-clause-root : goal.returns-in-None-insert_in_subtree-clause-root
returns-in-None-insert_in_subtree-clause-root g c =
    let whole = subst IsWholeTree c.in-Some.is c.requires.whole in
    let e = c.in-None-insert_in_subtree.ensures in
    root_again _ _ (rw (← c.deref_mut.ensures.value) at whole) e.tree e.count

pub returns-in-Some-insert_in_subtree-clause-root : goal.returns-in-Some-insert_in_subtree-clause-root
returns-in-Some-insert_in_subtree-clause-root g c =
    root_own _ _ c.join.ensures.root
