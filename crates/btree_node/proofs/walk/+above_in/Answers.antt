use Rattle.std.proofs.Common.{rules, arith, ◌∙◌, sym, ap, ◌≡◌, ◌+◌, ◌^◌, ◌<◌, length, vec_len, is_some}
use Rattle.node_parts.specs.Tree.{entries, depth}
use Rattle.btree_node.specs.Above.{first_above}
use Rattle.btree_node.proofs.Above as above
use Rattle.btree_node.proofs.At as at
use Rattle.btree_node.proofs.At.{at_child, at_range}
use Rattle.node_parts.proofs.Children.{sound_inner}
use Rattle.btree_node.proofs.walk.+above_in.Goals as goal
use Rattle.btree_node.proofs.walk.+above_in.Goals.{then-is_some-via-then-is_some, then-is_some-via-else-is_some+then-at-len}

pub index-requires : goal.index-requires
index-requires g t c =
    let n : length c.in-Inner.row.items ≡ vec_len c.in-Inner.row = search rules in
    omega (arith, n, at_range _ _ _ _ _ c.node.view_is c.in-Inner.is c.node.invariant c.requires.some c.place-at.ensures)

pub overflow_add-at : goal.overflow_add-at
overflow_add-at g t c =
    let n : length c.in-Inner.row.items ≡ vec_len c.in-Inner.row = search rules in
    let range = at_range _ _ _ _ _ c.node.view_is c.in-Inner.is c.node.invariant c.requires.some c.place-at.ensures in
    let small : c.place-at.result + 1 < 2 ^ 64 = omega (arith, range, n, (sound_inner _ _ c.node.invariant c.in-Inner.is).0) in
    search (rules, small)

pub overflow_add-at-in-Inner : goal.overflow_add-at-in-Inner
overflow_add-at-in-Inner g t c =
    let n : length c.in-Inner.row.items ≡ vec_len c.in-Inner.row = search rules in
    let range = at_range _ _ _ _ _ c.node.view_is c.in-Inner.is c.node.invariant c.requires.some c.place-at.ensures in
    let small : c.place-at.result + 1 < 2 ^ 64 = omega (arith, range, n, (sound_inner _ _ c.node.invariant c.in-Inner.is).0) in
    search (rules, small)

pub index-requires-in-Inner : goal.index-requires-in-Inner
index-requires-in-Inner g t c =
    let n : length c.in-Inner.row.items ≡ vec_len c.in-Inner.row = search rules in
    let range = at_range _ _ _ _ _ c.node.view_is c.in-Inner.is c.node.invariant c.requires.some c.place-at.ensures in
    omega (arith, range, n, c.if-at-len.false, c.len.ensures)

-- src/lib.rt:308:25
pub above_in-found-requires : goal.above_in-found-requires
above_in-found-requires g t c κs within =
    let a = at_child _ _ _ _ _ c.index.result.now _ c.node.view_is c.in-Inner.is c.node.invariant c.requires.ascending c.requires.some c.requires.tree
    c.place-at.ensures c.index.ensures c.deref-in-Inner.ensures in
    let n : length c.in-Inner.row.items ≡ vec_len c.in-Inner.row = search rules in
    let lower : depth c.deref-in-Inner.result.now < depth c.args.node.now = at.lower a in
    (search (rules, lower), (search rules, (at.ascending a, (at.level a, at.some a))))

-- src/lib.rt:310:17
pub returns-then-is_some : goal.returns-then-is_some
returns-then-is_some g t c =
    let a = at_child _ _ _ _ _ c.index.result.now _ c.node.view_is c.in-Inner.is c.node.invariant c.requires.ascending c.requires.some c.requires.tree
    c.place-at.ensures c.index.ensures c.deref-in-Inner.ensures in
    let n : length c.in-Inner.row.items ≡ vec_len c.in-Inner.row = search rules in
    let e = c.above_in-found.ensures in
    let s : is_some (first_above (entries c.deref-in-Inner.result.now) c.args.pair.now) ≡ c.is_some.result = ap is_some (sym e) ∙ sym c.is_some.ensures in
    elim c.then-is_some.branch [
      | then-is_some-via-then-is_some w ↦ e ∙ above.found a (s ∙ w.if-is_some.true)
      | then-is_some-via-else-is_some+then-at-len w ↦ e ∙ above.last a (s ∙ w.if-is_some.false) (w.if-at-len.true ∙ w.len.ensures ∙ sym n)
    ]

-- src/lib.rt:312:18
pub first_in-requires : goal.first_in-requires
first_in-requires g t c =
    let a = at_child _ _ _ _ _ c.index.result.now _ c.node.view_is c.in-Inner.is c.node.invariant c.requires.ascending c.requires.some c.requires.tree
    c.place-at.ensures c.index.ensures c.deref-in-Inner.ensures in
    let n : length c.in-Inner.row.items ≡ vec_len c.in-Inner.row = search rules in
    let l : c.place-at.result + 1 < length c.in-Inner.row.items = omega (arith, a.in_range, c.if-at-len.false, c.len.ensures, n) in
    record { some = above.next_some _ _ _ _ a.labelled l c.index-in-Inner.ensures c.deref-in-Inner-2.ensures }

-- src/lib.rt:298:1
pub returns-else-at-len : goal.returns-else-at-len
returns-else-at-len g t c =
    let a = at_child _ _ _ _ _ c.index.result.now _ c.node.view_is c.in-Inner.is c.node.invariant c.requires.ascending c.requires.some c.requires.tree
    c.place-at.ensures c.index.ensures c.deref-in-Inner.ensures in
    let n : length c.in-Inner.row.items ≡ vec_len c.in-Inner.row = search rules in
    let e = c.above_in-found.ensures in
    let s : is_some (first_above (entries c.deref-in-Inner.result.now) c.args.pair.now) ≡ c.is_some.result = ap is_some (sym e) ∙ sym c.is_some.ensures in
    let l : c.place-at.result + 1 < length c.in-Inner.row.items = omega (arith, a.in_range, c.if-at-len.false, c.len.ensures, n) in
    above.next _ _ _ a (s ∙ c.if-is_some.false) l c.index-in-Inner.ensures c.deref-in-Inner-2.ensures c.first_in.ensures
