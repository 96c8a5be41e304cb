use Rattle.std.proofs.Common.{rules, arith, sym, subst, ◌∙◌, ◌≡◌, ◌<◌, true, false, length, vec_len}
use Rattle.btree_node.specs.Handed.{HasRoomAt}
use Rattle.btree_node.proofs.Handing.{parted_at, ready, leaf_before, left_label, IsHanded, handed_entries, handed_labelled, handed_tree, handed_room}
use Rattle.btree_node.proofs.Rooms.{first_hands, looked_at, same_answer}
use Rattle.btree_node.proofs.room.hand_at.Goals as goal

pub hand_pair-requires-clause-ready : goal.hand_pair-requires-clause-ready
hand_pair-requires-clause-ready g c =
    let o : length c.args.row.now.items ≡ vec_len c.args.row.now = search rules in
    let behind : 0 < c.args.at = omega arith in
    let a = parted_at c.args.row.now.items _ c.args.at _ c.index_mut.result.now c.remove-right.result behind c.requires.in_range o
    c.remove-right.ensures.value c.remove-right.ensures.items c.index_mut.ensures.value c.requires.labelled c.requires.tree in
    let yes : c.can_hand.result ≡ true = search (rules, c.if-not-can_hand.false) in
    let could = ready a c.index-left.result.now c.index-full.result.now c.index-left.ensures c.index-full.ensures (c.can_hand.ensures.0 yes) in
    could

pub hand_pair-requires-clause-leaf : goal.hand_pair-requires-clause-leaf
hand_pair-requires-clause-leaf g c =
    let o : length c.args.row.now.items ≡ vec_len c.args.row.now = search rules in
    let behind : 0 < c.args.at = omega arith in
    let a = parted_at c.args.row.now.items _ c.args.at _ c.index_mut.result.now c.remove-right.result behind c.requires.in_range o
    c.remove-right.ensures.value c.remove-right.ensures.items c.index_mut.ensures.value c.requires.labelled c.requires.tree in
    let yes : c.can_hand.result ≡ true = search (rules, c.if-not-can_hand.false) in
    let could = ready a c.index-left.result.now c.index-full.result.now c.index-left.ensures c.index-full.ensures (c.can_hand.ensures.0 yes) in
    leaf_before a could

pub hand_pair-requires-clause-label : goal.hand_pair-requires-clause-label
hand_pair-requires-clause-label g c =
    let o : length c.args.row.now.items ≡ vec_len c.args.row.now = search rules in
    let behind : 0 < c.args.at = omega arith in
    let a = parted_at c.args.row.now.items _ c.args.at _ c.index_mut.result.now c.remove-right.result behind c.requires.in_range o
    c.remove-right.ensures.value c.remove-right.ensures.items c.index_mut.ensures.value c.requires.labelled c.requires.tree in
    left_label a

pub returns-clause-entries : goal.returns-clause-entries
returns-clause-entries g c =
    let o : length c.args.row.now.items ≡ vec_len c.args.row.now = search rules in
    let behind : 0 < c.args.at = omega arith in
    let a = parted_at c.args.row.now.items _ c.args.at _ c.index_mut.result.now c.remove-right.result behind c.requires.in_range o
    c.remove-right.ensures.value c.remove-right.ensures.items c.index_mut.ensures.value c.requires.labelled c.requires.tree in
    let yes : c.can_hand.result ≡ true = search (rules, c.if-not-can_hand.false) in
    let could = ready a c.index-left.result.now c.index-full.result.now c.index-left.ensures c.index-full.ensures (c.can_hand.ensures.0 yes) in
    let e = c.hand_pair.ensures in
    let n : IsHanded c.index_mut.result.now c.remove-right.result c.hand_pair.new.left c.hand_pair.new.full = record {
      could = could;
      joined = e.joined;
      left_leaf = e.leaf;
      right_leaf = e.right_leaf;
      left_count = e.count;
      right_count = e.right_count;
      least = e.least;
      left_label = e.label;
      right_label = e.right_label;
    } in
    rw c.insert_at.ensures.items (handed_entries a n)

pub returns-clause-labelled : goal.returns-clause-labelled
returns-clause-labelled g c =
    let o : length c.args.row.now.items ≡ vec_len c.args.row.now = search rules in
    let behind : 0 < c.args.at = omega arith in
    let a = parted_at c.args.row.now.items _ c.args.at _ c.index_mut.result.now c.remove-right.result behind c.requires.in_range o
    c.remove-right.ensures.value c.remove-right.ensures.items c.index_mut.ensures.value c.requires.labelled c.requires.tree in
    let yes : c.can_hand.result ≡ true = search (rules, c.if-not-can_hand.false) in
    let could = ready a c.index-left.result.now c.index-full.result.now c.index-left.ensures c.index-full.ensures (c.can_hand.ensures.0 yes) in
    let e = c.hand_pair.ensures in
    let n : IsHanded c.index_mut.result.now c.remove-right.result c.hand_pair.new.left c.hand_pair.new.full = record {
      could = could;
      joined = e.joined;
      left_leaf = e.leaf;
      right_leaf = e.right_leaf;
      left_count = e.count;
      right_count = e.right_count;
      least = e.least;
      left_label = e.label;
      right_label = e.right_label;
    } in
    rw c.insert_at.ensures.items (handed_labelled a n)

pub returns-clause-tree : goal.returns-clause-tree
returns-clause-tree g c =
    let o : length c.args.row.now.items ≡ vec_len c.args.row.now = search rules in
    let behind : 0 < c.args.at = omega arith in
    let a = parted_at c.args.row.now.items _ c.args.at _ c.index_mut.result.now c.remove-right.result behind c.requires.in_range o
    c.remove-right.ensures.value c.remove-right.ensures.items c.index_mut.ensures.value c.requires.labelled c.requires.tree in
    let yes : c.can_hand.result ≡ true = search (rules, c.if-not-can_hand.false) in
    let could = ready a c.index-left.result.now c.index-full.result.now c.index-left.ensures c.index-full.ensures (c.can_hand.ensures.0 yes) in
    let e = c.hand_pair.ensures in
    let n : IsHanded c.index_mut.result.now c.remove-right.result c.hand_pair.new.left c.hand_pair.new.full = record {
      could = could;
      joined = e.joined;
      left_leaf = e.leaf;
      right_leaf = e.right_leaf;
      left_count = e.count;
      right_count = e.right_count;
      least = e.least;
      left_label = e.label;
      right_label = e.right_label;
    } in
    rw c.insert_at.ensures.items (handed_tree c.requires.tree a n)

pub returns-clause-handed : goal.returns-clause-handed
returns-clause-handed g c =
    let o : length c.args.row.now.items ≡ vec_len c.args.row.now = search rules in
    let behind : 0 < c.args.at = omega arith in
    let a = parted_at c.args.row.now.items _ c.args.at _ c.index_mut.result.now c.remove-right.result behind c.requires.in_range o
    c.remove-right.ensures.value c.remove-right.ensures.items c.index_mut.ensures.value c.requires.labelled c.requires.tree in
    let yes : c.can_hand.result ≡ true = search (rules, c.if-not-can_hand.false) in
    let could = ready a c.index-left.result.now c.index-full.result.now c.index-left.ensures c.index-full.ensures (c.can_hand.ensures.0 yes) in
    let e = c.hand_pair.ensures in
    let n : IsHanded c.index_mut.result.now c.remove-right.result c.hand_pair.new.left c.hand_pair.new.full = record {
      could = could;
      joined = e.joined;
      left_leaf = e.leaf;
      right_leaf = e.right_leaf;
      left_count = e.count;
      right_count = e.right_count;
      least = e.least;
      left_label = e.label;
      right_label = e.right_label;
    } in
    λ _. subst (λ xs. HasRoomAt c.args.at c.args.row.now.items xs) (sym c.insert_at.ensures.items) (handed_room a n)

pub returns-then-at-eq0-clause-made : goal.returns-then-at-eq0-clause-made
returns-then-at-eq0-clause-made g c = first_hands c.args.row.now.items c.args.at c.if-at-eq0.true

pub returns-then-not-can_hand-clause-made : goal.returns-then-not-can_hand-clause-made
returns-then-not-can_hand-clause-made g c =
    let o : length c.args.row.now.items ≡ vec_len c.args.row.now = search rules in
    let behind : 0 < c.args.at = omega arith in
    let same = same_answer c.can_hand.result c.index-left.result.now.node.value c.index-full.result.now.node.value c.can_hand.ensures.0 c.can_hand.ensures.1 in
    let looked = looked_at c.args.row.now.items c.args.at _ c.index-left.result.now c.index-full.result.now behind c.requires.in_range o c.index-left.ensures
    c.index-full.ensures in
    let no : c.can_hand.result ≡ false = search (rules, c.if-not-can_hand.true) in
    sym no ∙ same ∙ looked

pub returns-clause-made : goal.returns-clause-made
returns-clause-made g c =
    let o : length c.args.row.now.items ≡ vec_len c.args.row.now = search rules in
    let behind : 0 < c.args.at = omega arith in
    let same = same_answer c.can_hand.result c.index-left.result.now.node.value c.index-full.result.now.node.value c.can_hand.ensures.0 c.can_hand.ensures.1 in
    let looked = looked_at c.args.row.now.items c.args.at _ c.index-left.result.now c.index-full.result.now behind c.requires.in_range o c.index-left.ensures
    c.index-full.ensures in
    let yes : c.can_hand.result ≡ true = search (rules, c.if-not-can_hand.false) in
    sym yes ∙ same ∙ looked
