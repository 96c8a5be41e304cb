use Rattle.std.proofs.Common.{rules, ◌≡◌, length, vec_len}
use Rattle.btree_node.proofs.Mending as mend
use Rattle.btree_node.proofs.Mending.{cut_at}
use Rattle.btree_node.proofs.removal.mend.Goals as goal

-- src/lib.rt:428:23
pub level_pair-requires-clause-tree : goal.level_pair-requires-clause-tree
level_pair-requires-clause-tree g c =
    let n : length c.args.row.now.items ≡ vec_len c.args.row.now = search rules in
    let a = cut_at _ _ _ _ c.index_mut.result.now c.remove-right.result c.requires.in_range n c.remove-right.ensures.value c.remove-right.ensures.items
    c.index_mut.ensures.value c.requires.neighbours c.requires.labelled in
    a.pair.0

-- src/lib.rt:428:23
pub level_pair-requires-clause-right_tree : goal.level_pair-requires-clause-right_tree
level_pair-requires-clause-right_tree g c =
    let n : length c.args.row.now.items ≡ vec_len c.args.row.now = search rules in
    let a = cut_at _ _ _ _ c.index_mut.result.now c.remove-right.result c.requires.in_range n c.remove-right.ensures.value c.remove-right.ensures.items
    c.index_mut.ensures.value c.requires.neighbours c.requires.labelled in
    a.pair.1

-- src/lib.rt:428:23
pub level_pair-requires-clause-low : goal.level_pair-requires-clause-low
level_pair-requires-clause-low g c =
    let n : length c.args.row.now.items ≡ vec_len c.args.row.now = search rules in
    let a = cut_at _ _ _ _ c.index_mut.result.now c.remove-right.result c.requires.in_range n c.remove-right.ensures.value c.remove-right.ensures.items
    c.index_mut.ensures.value c.requires.neighbours c.requires.labelled in
    a.pair.2

-- src/lib.rt:428:23
pub level_pair-requires-clause-right_low : goal.level_pair-requires-clause-right_low
level_pair-requires-clause-right_low g c =
    let n : length c.args.row.now.items ≡ vec_len c.args.row.now = search rules in
    let a = cut_at _ _ _ _ c.index_mut.result.now c.remove-right.result c.requires.in_range n c.remove-right.ensures.value c.remove-right.ensures.items
    c.index_mut.ensures.value c.requires.neighbours c.requires.labelled in
    a.pair.3

-- src/lib.rt:428:23
pub level_pair-requires-clause-both : goal.level_pair-requires-clause-both
level_pair-requires-clause-both g c =
    let n : length c.args.row.now.items ≡ vec_len c.args.row.now = search rules in
    let a = cut_at _ _ _ _ c.index_mut.result.now c.remove-right.result c.requires.in_range n c.remove-right.ensures.value c.remove-right.ensures.items
    c.index_mut.ensures.value c.requires.neighbours c.requires.labelled in
    a.pair.4

-- src/lib.rt:428:23
pub level_pair-requires-clause-most : goal.level_pair-requires-clause-most
level_pair-requires-clause-most g c =
    let n : length c.args.row.now.items ≡ vec_len c.args.row.now = search rules in
    let a = cut_at _ _ _ _ c.index_mut.result.now c.remove-right.result c.requires.in_range n c.remove-right.ensures.value c.remove-right.ensures.items
    c.index_mut.ensures.value c.requires.neighbours c.requires.labelled in
    a.pair.5

-- src/lib.rt:428:23
pub level_pair-requires-clause-label : goal.level_pair-requires-clause-label
level_pair-requires-clause-label g c =
    let n : length c.args.row.now.items ≡ vec_len c.args.row.now = search rules in
    let a = cut_at _ _ _ _ c.index_mut.result.now c.remove-right.result c.requires.in_range n c.remove-right.ensures.value c.remove-right.ensures.items
    c.index_mut.ensures.value c.requires.neighbours c.requires.labelled in
    mend.left_label a

-- src/lib.rt:429:9
pub returns-in_default-clause-entries : goal.returns-in_default-clause-entries
returns-in_default-clause-entries g c =
    let n : length c.args.row.now.items ≡ vec_len c.args.row.now = search rules in
    let a = cut_at _ _ _ _ c.index_mut.result.now c.remove-right.result c.requires.in_range n c.remove-right.ensures.value c.remove-right.ensures.items
    c.index_mut.ensures.value c.requires.neighbours c.requires.labelled in
    mend.one_entries _ a c.in_default.ensures.joined

-- src/lib.rt:429:9
pub returns-in_default-clause-labelled : goal.returns-in_default-clause-labelled
returns-in_default-clause-labelled g c =
    let n : length c.args.row.now.items ≡ vec_len c.args.row.now = search rules in
    let a = cut_at _ _ _ _ c.index_mut.result.now c.remove-right.result c.requires.in_range n c.remove-right.ensures.value c.remove-right.ensures.items
    c.index_mut.ensures.value c.requires.neighbours c.requires.labelled in
    mend.one_labelled _ a c.in_default.ensures.label

-- src/lib.rt:429:9
pub returns-in_default-clause-trees : goal.returns-in_default-clause-trees
returns-in_default-clause-trees g c =
    let n : length c.args.row.now.items ≡ vec_len c.args.row.now = search rules in
    let a = cut_at _ _ _ _ c.index_mut.result.now c.remove-right.result c.requires.in_range n c.remove-right.ensures.value c.remove-right.ensures.items
    c.index_mut.ensures.value c.requires.neighbours c.requires.labelled in
    mend.one_trees _ a c.in_default.ensures.tree c.in_default.ensures.low

-- src/lib.rt:414:1
pub returns-clause-entries : goal.returns-clause-entries
returns-clause-entries g c =
    let n : length c.args.row.now.items ≡ vec_len c.args.row.now = search rules in
    let a = cut_at _ _ _ _ c.index_mut.result.now c.remove-right.result c.requires.in_range n c.remove-right.ensures.value c.remove-right.ensures.items
    c.index_mut.ensures.value c.requires.neighbours c.requires.labelled in
    rw c.insert_at.ensures.items (mend.two_entries _ c.in-Some.right a c.in-Some.ensures.joined)

-- src/lib.rt:414:1
pub returns-clause-labelled : goal.returns-clause-labelled
returns-clause-labelled g c =
    let n : length c.args.row.now.items ≡ vec_len c.args.row.now = search rules in
    let a = cut_at _ _ _ _ c.index_mut.result.now c.remove-right.result c.requires.in_range n c.remove-right.ensures.value c.remove-right.ensures.items
    c.index_mut.ensures.value c.requires.neighbours c.requires.labelled in
    rw c.insert_at.ensures.items (mend.two_labelled _ c.in-Some.right a c.in-Some.ensures.label c.in-Some.ensures.upper.2)

-- src/lib.rt:414:1
pub returns-clause-trees : goal.returns-clause-trees
returns-clause-trees g c =
    let n : length c.args.row.now.items ≡ vec_len c.args.row.now = search rules in
    let a = cut_at _ _ _ _ c.index_mut.result.now c.remove-right.result c.requires.in_range n c.remove-right.ensures.value c.remove-right.ensures.items
    c.index_mut.ensures.value c.requires.neighbours c.requires.labelled in
    rw c.insert_at.ensures.items (mend.two_trees _ c.in-Some.right a c.in-Some.ensures.tree c.in-Some.ensures.low c.in-Some.ensures.upper.1
    c.in-Some.ensures.upper.0)
