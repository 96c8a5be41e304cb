use Rattle.std.proofs.Common.{rules, arith, refl, ◌∙◌, sym, ap, subst, ◌≡◌, ◌<◌, false, length, vec_len}
use Rattle.node_parts.specs.declared.NodeParts.TheVariants.{Inner}
use Rattle.node_parts.specs.Balance.{IsTree}
use Rattle.node_parts.specs.Place.{place_in}
use Rattle.node_parts.specs.Tree.{entries, depth}
use Rattle.node_parts.proofs.Children.{sound_inner}
use Rattle.node_parts.proofs.Places.{place_in-row}
use Rattle.node_parts.proofs.RowLemmas.{inner_is, count_of, length-trees}
use Rattle.btree_node.specs.Handed.{parent, can_hand_at}
use Rattle.btree_node.proofs.At as at
use Rattle.btree_node.proofs.At.{at_child, at_range}
use Rattle.btree_node.proofs.Handing.{IsKept, kept_entries, kept_labelled, kept_tree, kept_count, kept_room, kept_same}
use Rattle.btree_node.proofs.Rooms.{made_here, made_below}
use Rattle.btree_node.proofs.room.+make_room_below.Goals as goal

pub hand_at-requires-clause-in_range : goal.hand_at-requires-clause-in_range
hand_at-requires-clause-in_range g t c =
    let o : length c.in-Inner.row.items ≡ vec_len c.in-Inner.row = search rules in
    omega (arith, o, at_range _ _ _ _ _ c.node.view_is c.in-Inner.is c.node.invariant c.requires.some c.place-at.ensures)

pub hand_at-requires-clause-room : goal.hand_at-requires-clause-room
hand_at-requires-clause-room g t c =
    let s = sound_inner _ _ c.node.invariant c.in-Inner.is in
    s.1

pub hand_at-requires-clause-labelled : goal.hand_at-requires-clause-labelled
hand_at-requires-clause-labelled g t c =
    let s = sound_inner _ _ c.node.invariant c.in-Inner.is in
    s.2

pub hand_at-requires-clause-tree : goal.hand_at-requires-clause-tree
hand_at-requires-clause-tree g t c =
    let seen = inner_is _ _ _ c.node.view_is c.in-Inner.is in
    subst (λ x. IsTree (depth x) x) seen c.requires.tree

pub invariant_of-node-then-hand_at : goal.invariant_of-node-then-hand_at
invariant_of-node-then-hand_at g t c =
    let s = sound_inner _ _ c.node.invariant c.in-Inner.is in
    (omega (arith, s.0, c.hand_at.ensures.len), omega (arith, s.1, c.hand_at.ensures.capacity), c.hand_at.ensures.labelled)

pub returns-then-hand_at-clause-entries : goal.returns-then-hand_at-clause-entries
returns-then-hand_at-clause-entries g t c =
    let seen = inner_is _ _ _ c.node.view_is c.in-Inner.is in
    c.hand_at.ensures.entries ∙ sym (ap entries seen)

pub returns-then-hand_at-clause-tree : goal.returns-then-hand_at-clause-tree
returns-then-hand_at-clause-tree g t c =
    let seen = inner_is _ _ _ c.node.view_is c.in-Inner.is in
    subst (λ x. IsTree (depth x) (parent c.hand_at.new.row.items)) (sym seen) c.hand_at.ensures.tree

pub returns-then-hand_at-clause-count : goal.returns-then-hand_at-clause-count
returns-then-hand_at-clause-count g t c =
    let seen = inner_is _ _ _ c.node.view_is c.in-Inner.is in
    let o : length c.in-Inner.row.items ≡ vec_len c.in-Inner.row = search rules in
    let v : length c.hand_at.new.row.items ≡ vec_len c.hand_at.new.row = search rules in
    omega (arith, o, v, length-trees c.hand_at.new.row.items, count_of _ _ seen, c.hand_at.ensures.len)

pub returns-then-hand_at-clause-room : goal.returns-then-hand_at-clause-room
returns-then-hand_at-clause-room g t c =
    let seen = inner_is _ _ _ c.node.view_is c.in-Inner.is in
    λ _. c.hand_at.ensures.handed c.if-hand_at.true c.args.pair.now (c.place-at.ensures ∙ ap (λ x. place_in x c.args.pair.now) seen)

pub index_mut-requires : goal.index_mut-requires
index_mut-requires g t c =
    let same : c.hand_at.new.row ≡ c.in-Inner.row = c.hand_at.ensures.unchanged c.if-hand_at.false in
    let is = c.in-Inner.is ∙ ap Inner (sym same) in
    let v : length c.hand_at.new.row.items ≡ vec_len c.hand_at.new.row = search rules in
    omega (arith, v, at_range _ _ _ _ _ c.node.view_is is c.node.invariant c.requires.some c.place-at.ensures)

pub make_room_below-requires : goal.make_room_below-requires
make_room_below-requires g t c κs within =
    let same : c.hand_at.new.row ≡ c.in-Inner.row = c.hand_at.ensures.unchanged c.if-hand_at.false in
    let is = c.in-Inner.is ∙ ap Inner (sym same) in
    let a = at_child _ _ _ _ _ c.index_mut.result.now _ c.node.view_is is c.node.invariant c.requires.ascending c.requires.some c.requires.tree
    c.place-at.ensures c.index_mut.ensures.value c.deref_mut.ensures.value in
    let lower : depth c.deref_mut.result.now < depth c.args.node.now = at.lower a in
    (search (rules, lower), (search rules, (at.ascending a, (at.level a, at.some a))))

pub invariant_of-node-2 : goal.invariant_of-node-2
invariant_of-node-2 g t c =
    let same : c.hand_at.new.row ≡ c.in-Inner.row = c.hand_at.ensures.unchanged c.if-hand_at.false in
    let is = c.in-Inner.is ∙ ap Inner (sym same) in
    let a = at_child _ _ _ _ _ c.index_mut.result.now _ c.node.view_is is c.node.invariant c.requires.ascending c.requires.some c.requires.tree
    c.place-at.ensures c.index_mut.ensures.value c.deref_mut.ensures.value in
    let e = c.make_room_below.ensures in
    let n : IsKept c.deref_mut.result.now c.index_mut.result.now _ = record { entries_are = e.entries; least_is = refl; level = e.tree; count_is = e.count } in
    let s = sound_inner _ _ c.node.invariant is in
    (s.0, s.1, kept_labelled a n)

pub returns-clause-entries : goal.returns-clause-entries
returns-clause-entries g t c =
    let same : c.hand_at.new.row ≡ c.in-Inner.row = c.hand_at.ensures.unchanged c.if-hand_at.false in
    let is = c.in-Inner.is ∙ ap Inner (sym same) in
    let a = at_child _ _ _ _ _ c.index_mut.result.now _ c.node.view_is is c.node.invariant c.requires.ascending c.requires.some c.requires.tree
    c.place-at.ensures c.index_mut.ensures.value c.deref_mut.ensures.value in
    let e = c.make_room_below.ensures in
    let n : IsKept c.deref_mut.result.now c.index_mut.result.now _ = record { entries_are = e.entries; least_is = refl; level = e.tree; count_is = e.count } in
    kept_entries a n

pub returns-clause-tree : goal.returns-clause-tree
returns-clause-tree g t c =
    let same : c.hand_at.new.row ≡ c.in-Inner.row = c.hand_at.ensures.unchanged c.if-hand_at.false in
    let is = c.in-Inner.is ∙ ap Inner (sym same) in
    let a = at_child _ _ _ _ _ c.index_mut.result.now _ c.node.view_is is c.node.invariant c.requires.ascending c.requires.some c.requires.tree
    c.place-at.ensures c.index_mut.ensures.value c.deref_mut.ensures.value in
    let e = c.make_room_below.ensures in
    let n : IsKept c.deref_mut.result.now c.index_mut.result.now _ = record { entries_are = e.entries; least_is = refl; level = e.tree; count_is = e.count } in
    kept_tree a n

pub returns-clause-count : goal.returns-clause-count
returns-clause-count g t c =
    let same : c.hand_at.new.row ≡ c.in-Inner.row = c.hand_at.ensures.unchanged c.if-hand_at.false in
    let is = c.in-Inner.is ∙ ap Inner (sym same) in
    let a = at_child _ _ _ _ _ c.index_mut.result.now _ c.node.view_is is c.node.invariant c.requires.ascending c.requires.some c.requires.tree
    c.place-at.ensures c.index_mut.ensures.value c.deref_mut.ensures.value in
    let e = c.make_room_below.ensures in
    let n : IsKept c.deref_mut.result.now c.index_mut.result.now _ = record { entries_are = e.entries; least_is = refl; level = e.tree; count_is = e.count } in
    kept_count a n

pub returns-clause-room : goal.returns-clause-room
returns-clause-room g t c =
    let same : c.hand_at.new.row ≡ c.in-Inner.row = c.hand_at.ensures.unchanged c.if-hand_at.false in
    let is = c.in-Inner.is ∙ ap Inner (sym same) in
    let a = at_child _ _ _ _ _ c.index_mut.result.now _ c.node.view_is is c.node.invariant c.requires.ascending c.requires.some c.requires.tree
    c.place-at.ensures c.index_mut.ensures.value c.deref_mut.ensures.value in
    let e = c.make_room_below.ensures in
    let n : IsKept c.deref_mut.result.now c.index_mut.result.now _ = record { entries_are = e.entries; least_is = refl; level = e.tree; count_is = e.count } in
    λ h. kept_room a n (e.room h)

pub returns-clause-unchanged : goal.returns-clause-unchanged
returns-clause-unchanged g t c =
    let same : c.hand_at.new.row ≡ c.in-Inner.row = c.hand_at.ensures.unchanged c.if-hand_at.false in
    let is = c.in-Inner.is ∙ ap Inner (sym same) in
    let a = at_child _ _ _ _ _ c.index_mut.result.now _ c.node.view_is is c.node.invariant c.requires.ascending c.requires.some c.requires.tree
    c.place-at.ensures c.index_mut.ensures.value c.deref_mut.ensures.value in
    λ h. kept_same _ a (c.make_room_below.ensures.unchanged h)

pub returns-then-hand_at-clause-made : goal.returns-then-hand_at-clause-made
returns-then-hand_at-clause-made g t c =
    let seen = inner_is _ _ _ c.node.view_is c.in-Inner.is in
    let s = sound_inner _ _ c.node.invariant c.in-Inner.is in
    made_here _ c.in-Inner.row.items _ c.args.pair.now seen s.2 c.requires.ascending
    (c.place-at.ensures ∙ place_in-row c.args.pair.now c.in-Inner.row.items _ seen s.2)
    (sym c.if-hand_at.true ∙ c.hand_at.ensures.made)

pub returns-clause-made : goal.returns-clause-made
returns-clause-made g t c =
    let same : c.hand_at.new.row ≡ c.in-Inner.row = c.hand_at.ensures.unchanged c.if-hand_at.false in
    let is = c.in-Inner.is ∙ ap Inner (sym same) in
    let a = at_child _ _ _ _ _ c.index_mut.result.now _ c.node.view_is is c.node.invariant c.requires.ascending c.requires.some c.requires.tree
    c.place-at.ensures c.index_mut.ensures.value c.deref_mut.ensures.value in
    let not_here : can_hand_at c.place-at.result c.in-Inner.row.items ≡ false = sym c.hand_at.ensures.made ∙ c.if-hand_at.false in
    let no : can_hand_at c.place-at.result c.hand_at.new.row.items ≡ false = ap (λ r. can_hand_at c.place-at.result r.items) same ∙ not_here in
    c.make_room_below.ensures.made ∙ made_below a no
