use Rattle.std.proofs.Common.{◌≡◌, ◌<◌, List, [], ◌∷◌, length, get_or, refl, sym, ap, subst, ◌∙◌, rules, arith}
use Rattle.node_parts.specs.declared.Child.{Child}
use Rattle.node_parts.specs.declared.Entry.{Entry}
use Rattle.node_parts.specs.Tree.{Tree, depth, entries, branch, forest_of}
use Rattle.node_parts.specs.Rows.{trees}
use Rattle.node_parts.proofs.Children.{child_lower, sound_inner}
use Rattle.node_parts.proofs.RowLemmas.{inner_is, leaf_is, some_child}
use Rattle.btree_node.specs.Runs.{IsFront}
use Rattle.btree_node.proofs.Above.{next_some}
use Rattle.btree_node.proofs.Fronts.{front_whole, front_longer}
use Rattle.btree_node.proofs.runs.+first_run.Goals as goal

run_some : (all run : List Entry) → IsFront all run → 0 < length all → 0 < length run
run_some all [] front some = absurd (omega (arith, some, ap length (front.none refl)))
run_some all (e ∷ run) front some = omega arith

front_first : {A : Type 0} (cs : List (Child A)) (v : Tree) (b : Child A) (run : List Entry) → 0 < length cs → b ≡ get_or cs 0 b → v ≡ b.node.value
    → 0 < length (entries v) → IsFront (entries v) run → IsFront (entries (branch (forest_of (trees cs)))) run
front_first [] v b run long is tree some front = absurd (omega (arith, long))
front_first {A = A} (c ∷ cs) v b run long is tree some front =
    subst (λ (w : Tree). IsFront (entries (branch (forest_of (w ∷ trees cs)))) run) (tree ∙ ap (λ (d : Child A). d.node.value) is)
    (front_longer (entries v) run _ front (run_some _ run front some))

pub index-requires : goal.index-requires
index-requires g t c =
    let seen = inner_is _ _ _ c.node.view_is c.in-Inner.is in
    let some : 0 < length c.in-Inner.row.items = some_child c.in-Inner.row.items (subst (λ (w : Tree). 0 < length (entries w)) seen c.requires.some) in
    omega (arith, some, c.in-Inner.row.ok.0)

pub first_run-requires : goal.first_run-requires
first_run-requires g t c κs within =
    let seen = inner_is _ _ _ c.node.view_is c.in-Inner.is in
    let some : 0 < length c.in-Inner.row.items = some_child c.in-Inner.row.items (subst (λ (w : Tree). 0 < length (entries w)) seen c.requires.some) in
    let lower : depth c.deref.result.now < depth c.args.node.now =
    child_lower c.in-Inner.row.items _ _ _ c.index.result.now seen c.index.ensures c.deref.ensures some in (
      search (rules, lower),
      (
        search rules,
        next_some c.in-Inner.row.items _ _ _ (sound_inner _ _ c.node.invariant c.in-Inner.is).2 some c.index.ensures c.deref.ensures,
      ),
    )

pub returns-in-Leaf : goal.returns-in-Leaf
returns-in-Leaf g t c =
    subst (λ (w : Tree). IsFront (entries w) c.as_slice.result.now) (sym (leaf_is _ _ _ c.node.view_is c.in-Leaf.is))
    (subst (IsFront c.in-Leaf.row.items) (sym c.as_slice.ensures.value) (front_whole c.in-Leaf.row.items))

pub returns-in-Inner : goal.returns-in-Inner
returns-in-Inner g t c =
    let seen = inner_is _ _ _ c.node.view_is c.in-Inner.is in
    let some : 0 < length c.in-Inner.row.items = some_child c.in-Inner.row.items (subst (λ (w : Tree). 0 < length (entries w)) seen c.requires.some) in
    subst (λ (w : Tree). IsFront (entries w) c.first_run.result.now) (sym seen)
    (front_first c.in-Inner.row.items c.deref.result.now c.index.result.now c.first_run.result.now some c.index.ensures c.deref.ensures
    (next_some c.in-Inner.row.items _ _ _ (sound_inner _ _ c.node.invariant c.in-Inner.is).2 some c.index.ensures c.deref.ensures) c.first_run.ensures)
