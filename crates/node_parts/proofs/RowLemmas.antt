-- Lemmas on rows of children.
use Rattle.std.proofs.Common.{◌≡◌, ℕ, ◌<◌, ◌≤◌, List, [], ◌∷◌, ◌++◌, length, take, drop, Some, refl, sym, ap, subst, ◌∙◌, arith, zero, suc, Vec, vec_len}
use Rattle.std.proofs.Common.{vec_capacity}
use Rattle.std.specs.List.{insert}
use Rattle.node_parts.specs.declared.Entry.{Entry}
use Rattle.node_parts.specs.declared.Child.{Child}
use Rattle.node_parts.specs.declared.NodeParts.{NodeParts}
use Rattle.node_parts.specs.declared.NodeParts.TheVariants.{Leaf, Inner}
use Rattle.node_parts.specs.Tree.{Tree, leaf, branch, none, entries, forest_of, trees_of, count}
use Rattle.node_parts.specs.Seen.{least_of, AreLabelled, tree_of, IsSoundNode}
use Rattle.node_parts.specs.Rows.{trees}
use Rattle.node_parts.proofs.Children.{all_entries}

pub some_child : {A : Type 0} (cs : List (Child A)) → 0 < length (all_entries cs) → 0 < length cs
some_child [] h = h
some_child (c ∷ cs) h = omega arith

-- ---- rows that were cut in two
pub trees-append : {A : Type 0} (cs ds : List (Child A)) → trees (cs ++ ds) ≡ trees cs ++ trees ds
trees-append [] ds = refl
trees-append (c ∷ cs) ds = ap (λ w. c.node.value ∷ w) (trees-append cs ds)

pub trees-take : {A : Type 0} (cs : List (Child A)) (n : ℕ) → trees (take n cs) ≡ take n (trees cs)
trees-take [] zero = refl
trees-take [] (suc n) = refl
trees-take (c ∷ cs) zero = refl
trees-take (c ∷ cs) (suc n) = ap (λ w. c.node.value ∷ w) (trees-take cs n)

pub trees-drop : {A : Type 0} (cs : List (Child A)) (n : ℕ) → trees (drop n cs) ≡ drop n (trees cs)
trees-drop [] zero = refl
trees-drop [] (suc n) = refl
trees-drop (c ∷ cs) zero = refl
trees-drop (c ∷ cs) (suc n) = trees-drop cs n

pub trees-insert : {A : Type 0} (cs : List (Child A)) (n : ℕ) (b : Child A) → trees (insert cs n b) ≡ insert (trees cs) n b.node.value
trees-insert cs n b = trees-append (take n cs) (b ∷ drop n cs) ∙ ap (λ w. w ++ trees (b ∷ drop n cs)) (trees-take cs n)
    ∙ ap (λ w. take n (trees cs) ++ b.node.value ∷ w) (trees-drop cs n)

pub labelled-left : {A : Type 0} (cs ds : List (Child A)) → AreLabelled (cs ++ ds) → AreLabelled cs
labelled-left [] ds l = tt
labelled-left (c ∷ cs) ds l = (l.0, labelled-left cs ds l.1)

pub labelled-right : {A : Type 0} (cs ds : List (Child A)) → AreLabelled (cs ++ ds) → AreLabelled ds
labelled-right [] ds l = l
labelled-right (c ∷ cs) ds l = labelled-right cs ds l.1

pub labelled-insert : {A : Type 0} (cs : List (Child A)) (n : ℕ) (b : Child A) → AreLabelled cs → least_of (entries b.node.value) ≡ Some b.least
    → AreLabelled (insert cs n b)
labelled-insert [] zero b l h = (h, tt)
labelled-insert [] (suc n) b l h = (h, tt)
labelled-insert (c ∷ cs) zero b l h = (h, l)
labelled-insert (c ∷ cs) (suc n) b l h = (l.0, labelled-insert cs n b l.1 h)

pub length-trees : {A : Type 0} (cs : List (Child A)) → length (trees_of (forest_of (trees cs))) ≡ length cs
length-trees [] = refl
length-trees (c ∷ cs) = ap suc (length-trees cs)

pub no_children : {A : Type 0} (parts : NodeParts A) (cs : Vec (Child A) A) (t : Tree) → tree_of parts ≡ t → parts ≡ Inner cs → t ≡ branch none → cs.items ≡ []
no_children parts cs t v e z = no_trees cs.items (ap count (sym (ap tree_of e) ∙ v ∙ z))
  where
    no_trees : {A : Type 0} (cs : List (Child A)) → length (trees_of (forest_of (trees cs))) ≡ 0 → cs ≡ []
    no_trees [] h = refl
    no_trees (c ∷ cs) h = absurd (omega arith)

pub leaf_is : {A : Type 0} (parts : NodeParts A) (es : Vec Entry A) (t : Tree) → tree_of parts ≡ t → parts ≡ Leaf es → t ≡ leaf es.items
leaf_is parts es t v e = sym v ∙ ap tree_of e

pub sound_leaf : {A : Type 0} (parts : NodeParts A) (es : Vec Entry A) → IsSoundNode parts → parts ≡ Leaf es → (vec_len es ≤ 32) × (32 ≤ vec_capacity es)
sound_leaf parts es h e = subst IsSoundNode e h

pub inner_is : {A : Type 0} (parts : NodeParts A) (cs : Vec (Child A) A) (t : Tree) → tree_of parts ≡ t → parts ≡ Inner cs
    → t ≡ branch (forest_of (trees cs.items))
inner_is parts cs t v e = sym v ∙ ap tree_of e

pub count_of : {A : Type 0} (cs : List (Child A)) (t : Tree) → t ≡ branch (forest_of (trees cs)) → count t ≡ length cs
count_of cs t e = ap count e ∙ length-trees cs
