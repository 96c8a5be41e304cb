use Rattle.std.proofs.Common.{rules, arith, ap, sym, subst, ◌∙◌, ◌≡◌, ◌+◌, ◌-◌, ◌<◌, length, vec_len, None}
use Rattle.std.specs.List.{last_or}
use Rattle.node_parts.specs.Tree.{Tree, depth, entries}
use Rattle.node_parts.proofs.Children.{child_lower, sound_inner}
use Rattle.node_parts.proofs.RowLemmas.{inner_is, leaf_is, some_child}
use Rattle.btree_node.proofs.Above.{next_some}
use Rattle.btree_node.proofs.Below.{last_at, last_child}
use Rattle.btree_node.proofs.walk.+last_in.Goals as goal

pub last_in-requires : goal.last_in-requires
last_in-requires g t c κs within =
    let seen = inner_is _ _ _ c.node.view_is c.in-Inner.is in
    let n : length c.in-Inner.row.items ≡ vec_len c.in-Inner.row = search rules in
    let some : 0 < length c.in-Inner.row.items = some_child c.in-Inner.row.items (subst (λ (w : Tree). 0 < length (entries w)) seen c.requires.some) in
    let range : c.len-in-Inner.result - 1 < length c.in-Inner.row.items = omega (arith, some, n, c.len-in-Inner.ensures) in
    let lower : depth c.deref.result.now < depth c.args.node.now =
    child_lower c.in-Inner.row.items _ _ _ c.index-in-Inner.result.now seen c.index-in-Inner.ensures c.deref.ensures range in (
      search (rules, lower),
      (
        search rules,
        next_some c.in-Inner.row.items _ _ _ (sound_inner _ _ c.node.invariant c.in-Inner.is).2 range c.index-in-Inner.ensures c.deref.ensures,
      ),
    )

pub returns-in-Leaf : goal.returns-in-Leaf
returns-in-Leaf g t c =
    let seen = leaf_is _ _ _ c.node.view_is c.in-Leaf.is in
    let n : length c.in-Leaf.row.items ≡ vec_len c.in-Leaf.row = search rules in
    let some : 0 < length c.in-Leaf.row.items = subst (λ (w : Tree). 0 < length (entries w)) seen c.requires.some in
    let last : c.len.result - 1 + 1 ≡ length c.in-Leaf.row.items = omega (arith, some, n, c.len.ensures) in
    ap (λ w. last_or None (entries w)) seen ∙ last_at None c.in-Leaf.row.items _ c.index.result.now last c.index.ensures

pub returns-in-Inner : goal.returns-in-Inner
returns-in-Inner g t c =
    let seen = inner_is _ _ _ c.node.view_is c.in-Inner.is in
    let n : length c.in-Inner.row.items ≡ vec_len c.in-Inner.row = search rules in
    let some : 0 < length c.in-Inner.row.items = some_child c.in-Inner.row.items (subst (λ (w : Tree). 0 < length (entries w)) seen c.requires.some) in
    let last : c.len-in-Inner.result - 1 + 1 ≡ length c.in-Inner.row.items = omega (arith, some, n, c.len-in-Inner.ensures) in
    ap (λ w. last_or None (entries w)) seen
    ∙ last_child c.in-Inner.row.items _ c.index-in-Inner.result.now c.last_in.result last c.index-in-Inner.ensures
    (ap (λ w. last_or None (entries w)) (sym c.deref.ensures) ∙ c.last_in.ensures)
