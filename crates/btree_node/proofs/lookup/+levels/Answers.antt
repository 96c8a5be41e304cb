use Rattle.std.proofs.Common.{rules, arith, ◌∙◌, ap, ◌+◌, ◌<◌, length, ℕ}
use Rattle.node_parts.specs.Tree.{depth}
use Rattle.node_parts.proofs.Children.{seen_inner, sound_inner}
use Rattle.node_parts.proofs.RowLemmas.{some_child}
use Rattle.btree_node.proofs.Above.{child_levels, next_some}
use Rattle.btree_node.proofs.lookup.+levels.Goals as goal

-- src/lib.rt:270:30
pub levels-requires : goal.levels-requires
levels-requires g t c κs within =
    let v = seen_inner _ _ _ c.node.view_is c.in-Inner.is in
    let s = sound_inner _ _ c.node.invariant c.in-Inner.is in
    let some : 0 < length c.in-Inner.row.items = some_child c.in-Inner.row.items (rw v at c.requires.some) in
    let l = child_levels _ _ _ 0 c.index.result.now v c.index.ensures c.deref.ensures some c.requires.tree in
    let lower : depth c.deref.result.now < depth c.args.node.now = omega (arith, l.0) in
    (search (rules, lower), (search rules, (l.1, (next_some _ 0 _ _ s.2 some c.index.ensures c.deref.ensures, omega (arith, c.requires.low)))))

-- src/lib.rt:262:1
pub returns-in-Inner : goal.returns-in-Inner
returns-in-Inner g t c =
    let v = seen_inner _ _ _ c.node.view_is c.in-Inner.is in
    let s = sound_inner _ _ c.node.invariant c.in-Inner.is in
    let some : 0 < length c.in-Inner.row.items = some_child c.in-Inner.row.items (rw v at c.requires.some) in
    let l = child_levels _ _ _ 0 c.index.result.now v c.index.ensures c.deref.ensures some c.requires.tree in
    ap (λ (m : ℕ). m + 1) c.levels.ensures ∙ l.0
