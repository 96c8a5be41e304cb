use Rattle.std.proofs.Common.{rules, arith, ap, refl, ◌≡◌, length, vec_len}
use Rattle.node_parts.proofs.Children.{sound_inner}
use Rattle.node_parts.proofs.RowLemmas.{no_children}
use Rattle.btree_node.proofs.insertion.push_two.Goals as goal

-- src/lib.rt:211:5
pub push_reserved-requires : goal.push_reserved-requires
push_reserved-requires g c =
    let none = no_children _ _ _ c.top.view_is c.in-Inner.is c.requires.empty in
    let n : length c.in-Inner.row.items ≡ vec_len c.in-Inner.row = search rules in
    omega (arith, ap length none, (sound_inner _ _ c.top.invariant c.in-Inner.is).1)

-- src/lib.rt:212:5
pub push_reserved-requires-2 : goal.push_reserved-requires-2
push_reserved-requires-2 g c =
    let none = no_children _ _ _ c.top.view_is c.in-Inner.is c.requires.empty in
    let n : length c.in-Inner.row.items ≡ vec_len c.in-Inner.row = search rules in
    omega (arith, ap length none, (sound_inner _ _ c.top.invariant c.in-Inner.is).1, c.push_reserved.ensures.len, c.push_reserved.ensures.capacity)

-- src/lib.rt:202:1
pub invariant_of-top : goal.invariant_of-top
invariant_of-top g c =
    let none = no_children _ _ _ c.top.view_is c.in-Inner.is c.requires.empty in
    let n : length c.in-Inner.row.items ≡ vec_len c.in-Inner.row = search rules in (
      omega (arith, ap length none, c.push_reserved.ensures.len, c.push_reserved-2.ensures.len),
      omega (arith, (sound_inner _ _ c.top.invariant c.in-Inner.is).1, c.push_reserved.ensures.capacity, c.push_reserved-2.ensures.capacity),
      rw (c.push_reserved-2.ensures.items, c.push_reserved.ensures.items, none) (c.requires.label, (c.requires.upper_label, tt)),
    )

-- src/lib.rt:202:1
pub returns : goal.returns
returns g c =
    let none = no_children _ _ _ c.top.view_is c.in-Inner.is c.requires.empty in
    rw (c.push_reserved-2.ensures.items, c.push_reserved.ensures.items, none) refl
