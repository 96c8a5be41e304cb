use Rattle.std.proofs.Common.{◌≡◌, ◌<◌, ◌++◌, List, [], ◌∷◌, Some, length, get_or, sym, ap, subst, ◌∙◌, rules, arith}
use Rattle.node_parts.specs.declared.Child.{Child}
use Rattle.node_parts.specs.declared.Entry.{Entry}
use Rattle.node_parts.specs.Tree.{Tree, depth, entries, branch, forest_of}
use Rattle.node_parts.specs.Rows.{trees}
use Rattle.node_parts.proofs.Children.{child_lower, sound_inner}
use Rattle.node_parts.proofs.RowLemmas.{inner_is, leaf_is, some_child}
use Rattle.btree_node.specs.Above.{first_of}
use Rattle.btree_node.proofs.Above.{next_some}
use Rattle.btree_node.proofs.walk.+first_in.Goals as goal

first_is : (es : List Entry) (e : Entry) → 0 < length es → e ≡ get_or es 0 e → first_of es ≡ Some e
first_is [] e some is = absurd (omega (arith, some))
first_is (x ∷ es) e some is = ap Some (sym is)

first_longer : (es more : List Entry) (e : Entry) → first_of es ≡ Some e → first_of (es ++ more) ≡ Some e
first_longer [] more e is = absurd cc
first_longer (x ∷ es) more e is = is

first_below : {A : Type 0} (cs : List (Child A)) (v : Tree) (b : Child A) (e : Entry) → 0 < length cs → b ≡ get_or cs 0 b → v ≡ b.node.value
    → first_of (entries v) ≡ Some e → first_of (entries (branch (forest_of (trees cs)))) ≡ Some e
first_below [] v b e long is tree first = absurd (omega (arith, long))
first_below {A = A} (c ∷ cs) v b e long is tree first =
    ap (λ (w : Tree). first_of (entries (branch (forest_of (w ∷ trees cs))))) (sym (tree ∙ ap (λ (d : Child A). d.node.value) is))
    ∙ first_longer (entries v) _ e first

pub index-requires : goal.index-requires
index-requires g t c =
    let some = subst (λ (w : Tree). 0 < length (entries w)) (leaf_is _ _ _ c.node.view_is c.in-Leaf.is) c.requires.some in
    omega (arith, some, c.in-Leaf.row.ok.0)

pub first_in-requires : goal.first_in-requires
first_in-requires g t c κs within =
    let seen = inner_is _ _ _ c.node.view_is c.in-Inner.is in
    let some : 0 < length c.in-Inner.row.items = some_child c.in-Inner.row.items (subst (λ (w : Tree). 0 < length (entries w)) seen c.requires.some) in
    let lower : depth c.deref.result.now < depth c.args.node.now =
    child_lower c.in-Inner.row.items _ _ _ c.index-in-Inner.result.now seen c.index-in-Inner.ensures c.deref.ensures some in (
      search (rules, lower),
      (
        search rules,
        next_some c.in-Inner.row.items _ _ _ (sound_inner _ _ c.node.invariant c.in-Inner.is).2 some c.index-in-Inner.ensures c.deref.ensures,
      ),
    )

pub returns-in-Leaf : goal.returns-in-Leaf
returns-in-Leaf g t c =
    let seen = leaf_is _ _ _ c.node.view_is c.in-Leaf.is in
    ap (λ (w : Tree). first_of (entries w)) seen
    ∙ first_is c.in-Leaf.row.items c.index.result.now (subst (λ (w : Tree). 0 < length (entries w)) seen c.requires.some) c.index.ensures

pub returns-in-Inner : goal.returns-in-Inner
returns-in-Inner g t c =
    let seen = inner_is _ _ _ c.node.view_is c.in-Inner.is in
    let some : 0 < length c.in-Inner.row.items = some_child c.in-Inner.row.items (subst (λ (w : Tree). 0 < length (entries w)) seen c.requires.some) in
    ap (λ (w : Tree). first_of (entries w)) seen
    ∙ first_below c.in-Inner.row.items _ c.index-in-Inner.result.now c.first_in.result some c.index-in-Inner.ensures c.deref.ensures c.first_in.ensures
