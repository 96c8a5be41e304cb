use Rattle.std.proofs.Common.{◌≡◌, ◌<◌, None, ap, sym, subst, refl, ◌∙◌, arith}
use Rattle.std.specs.FinMap as map
use Rattle.btree_node.specs.declared.limits.TheConstants.{ENTRIES_MAX}
use Rattle.record_values.specs.declared.pair.Mark.TheVariants.{Live}
use Rattle.record_values.specs.Entries.{Index}
use Rattle.btree_node.specs.Contents.{contents}
use Rattle.marked_index.proofs.Actions.{added_is}
use Rattle.marked_index.proofs.Counted.{counted_insert}
use Rattle.marked_index.proofs.entries.Entries.put_beside.Goals as goal

pub put_in_leaf-requires : goal.put_in_leaf-requires
put_in_leaf-requires g c = record { room = λ _. omega (arith, c.requires.room, ap map.len c.make_room.ensures.contents, ap map.len c.self.view_is) }

pub invariant_of-self-2 : goal.invariant_of-self-2
invariant_of-self-2 g c =
    let m = contents c.self.inside.tree in
    let p = c.args.pair.now in
    let made : contents c.make_room.new.self ≡ m = c.make_room.ensures.contents in
    let absent : map.get m p ≡ None = ap (λ (i : Index). map.get i p) (sym made) ∙ added_is _ _ c.in-Added.ensures.outcome in
    counted_insert m _ p None _ _ c.self.invariant absent Live
    (λ _. subst (λ (i : Index). map.len i < ENTRIES_MAX) (sym c.self.view_is) c.requires.room)
    (c.in-Added.ensures.added refl ∙ ap (λ (i : Index). map.insert i p Live) made) refl
