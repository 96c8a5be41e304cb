use Rattle.std.proofs.Common.{rules, arith, ◌∙◌, sym, ap, ◌≡◌, ◌-◌, ◌<◌, length, vec_len, is_some}
use Rattle.node_parts.specs.Tree.{entries, depth}
use Rattle.btree_node.specs.Below.{last_below}
use Rattle.btree_node.proofs.Above.{next_some}
use Rattle.btree_node.proofs.At as at
use Rattle.btree_node.proofs.At.{at_child, at_range}
use Rattle.btree_node.proofs.Below as below
use Rattle.btree_node.proofs.walk.+below_in.Goals as goal
use Rattle.btree_node.proofs.walk.+below_in.Goals.{then-is_some-via-then-is_some, then-is_some-via-else-is_some+then-at-eq0}

pub index-requires : goal.index-requires
index-requires g t c =
    let n : length c.in-Inner.row.items ≡ vec_len c.in-Inner.row = search rules in
    omega (arith, n, at_range _ _ _ _ _ c.node.view_is c.in-Inner.is c.node.invariant c.requires.some c.place-at.ensures)

pub index-requires-in-Inner : goal.index-requires-in-Inner
index-requires-in-Inner g t c =
    let n : length c.in-Inner.row.items ≡ vec_len c.in-Inner.row = search rules in
    omega (arith, n, at_range _ _ _ _ _ c.node.view_is c.in-Inner.is c.node.invariant c.requires.some c.place-at.ensures)

pub below_in-found-requires : goal.below_in-found-requires
below_in-found-requires g t c κs within =
    let a = at_child _ _ _ _ _ c.index.result.now _ c.node.view_is c.in-Inner.is c.node.invariant c.requires.ascending c.requires.some c.requires.tree
    c.place-at.ensures c.index.ensures c.deref-in-Inner.ensures in
    let lower : depth c.deref-in-Inner.result.now < depth c.args.node.now = at.lower a in
    (search (rules, lower), (search rules, (at.ascending a, (at.level a, at.some a))))

pub returns-then-is_some : goal.returns-then-is_some
returns-then-is_some g t c =
    let a = at_child _ _ _ _ _ c.index.result.now _ c.node.view_is c.in-Inner.is c.node.invariant c.requires.ascending c.requires.some c.requires.tree
    c.place-at.ensures c.index.ensures c.deref-in-Inner.ensures in
    let e = c.below_in-found.ensures in
    let s : is_some (last_below (entries c.deref-in-Inner.result.now) c.args.pair.now) ≡ c.is_some.result = ap is_some (sym e) ∙ sym c.is_some.ensures in
    elim c.then-is_some.branch [
      | then-is_some-via-then-is_some w ↦ e ∙ below.found a (s ∙ w.if-is_some.true)
      | then-is_some-via-else-is_some+then-at-eq0 w ↦ e ∙ below.first a (s ∙ w.if-is_some.false) w.if-at-eq0.true
    ]

pub last_in-requires : goal.last_in-requires
last_in-requires g t c =
    let a = at_child _ _ _ _ _ c.index.result.now _ c.node.view_is c.in-Inner.is c.node.invariant c.requires.ascending c.requires.some c.requires.tree
    c.place-at.ensures c.index.ensures c.deref-in-Inner.ensures in
    let l : c.place-at.result - 1 < length c.in-Inner.row.items = omega (arith, a.in_range) in
    record { some = next_some _ _ _ _ a.labelled l c.index-in-Inner.ensures c.deref-in-Inner-2.ensures }

pub returns-else-at-eq0 : goal.returns-else-at-eq0
returns-else-at-eq0 g t c =
    let a = at_child _ _ _ _ _ c.index.result.now _ c.node.view_is c.in-Inner.is c.node.invariant c.requires.ascending c.requires.some c.requires.tree
    c.place-at.ensures c.index.ensures c.deref-in-Inner.ensures in
    let e = c.below_in-found.ensures in
    let s : is_some (last_below (entries c.deref-in-Inner.result.now) c.args.pair.now) ≡ c.is_some.result = ap is_some (sym e) ∙ sym c.is_some.ensures in
    let l : 0 < c.place-at.result = omega (arith, c.if-at-eq0.false) in
    below.before a (s ∙ c.if-is_some.false) _ _ _ l c.index-in-Inner.ensures c.deref-in-Inner-2.ensures c.last_in.ensures
