-- The child to which a way down goes on.
use Rattle.std.proofs.Common.{◌≡◌, ℕ, ◌<◌, ◌≤◌, List, length, get_or, Some, None, refl, sym, ap, ◌∙◌}
use Rattle.std.specs.List.{slice_get}
use Rattle.std.specs.Option.{option_map}
use Rattle.std.proofs.lemmas.Option.{slice_get-map, slice_get_past, slice_get_read}
use Rattle.node_parts.specs.declared.Child.{Child}
use Rattle.node_parts.specs.Rows.{branches, trees}
use Rattle.node_parts.specs.Tree.{Tree, branch, forest_of, trees_of-forest_of}

child_at : {A : Type 0} (t : Tree) (cs : List (Child A)) (k : ℕ) → t ≡ branch (forest_of (trees cs))
    → slice_get (branches t) k ≡ option_map (λ (x : Child A). x.node.value) (slice_get cs k)
child_at {A} t cs k e =
    ap (λ x. slice_get (branches x) k) e ∙ ap (λ ts. slice_get ts k) (trees_of-forest_of (trees cs)) ∙ slice_get-map (λ (x : Child A). x.node.value) cs k

-- which is the tree at that place
pub child_is : {A : Type 0} (t u : Tree) (cs : List (Child A)) (k : ℕ) (c : Child A) → t ≡ branch (forest_of (trees cs)) → k < length cs → c ≡ get_or cs k c
    → u ≡ c.node.value → slice_get (branches t) k ≡ Some u
child_is {A} t u cs k c e h d f = child_at t cs k e ∙ ap (option_map (λ (x : Child A). x.node.value)) (slice_get_read cs (length cs) k c refl h d)
    ∙ ap Some (sym f)

-- past the last child there is none
pub no_child_past : {A : Type 0} (t : Tree) (cs : List (Child A)) (k : ℕ) → t ≡ branch (forest_of (trees cs)) → length cs ≤ k → slice_get (branches t) k ≡ None
no_child_past {A} t cs k e h = child_at t cs k e ∙ ap (option_map (λ (x : Child A). x.node.value)) (slice_get_past cs k h)
