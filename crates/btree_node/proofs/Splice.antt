-- Two neighbours of a row replaced.
use Rattle.std.proofs.Common.{◌≡◌, ℕ, ◌<◌, List, [], ◌∷◌, ◌++◌, length, get_or, refl, ap, ◌∙◌, arith, zero, suc, append_assoc}
use Rattle.std.proofs.Math.ListN.{set}
use Rattle.std.specs.List.{insert, remove}
use Rattle.node_parts.specs.declared.Child.{Child}
use Rattle.node_parts.specs.Tree.{entries, forest_of}
use Rattle.node_parts.specs.Seen.{AreLabelled}
use Rattle.node_parts.specs.Balance.{IsTree, AreTrees}
use Rattle.node_parts.specs.Rows.{trees}
use Rattle.node_parts.proofs.Children.{all_entries}
use Rattle.node_parts.proofs.Local.{entries-append, AreLabelled-append}
use Rattle.btree_node.specs.Mended.{AreNeighbours, AreTreesBut, ArePair}

-- the items at l and after it replaced by zs
abbrev pub splice : {X : Type 0} → ℕ → List X → List X → List X
splice l zs [] = []
splice l zs (c ∷ []) = []
splice zero zs (c ∷ d ∷ cs) = zs ++ cs
splice (suc l) zs (c ∷ d ∷ cs) = c ∷ splice l zs (d ∷ cs)

pub get_removed : {X : Type 0} (cs : List X) (l : ℕ) (x : X) → suc l < length cs → get_or (remove cs (suc l)) l x ≡ get_or cs l x
get_removed [] l x h = absurd (omega arith)
get_removed (c ∷ []) l x h = absurd (omega arith)
get_removed (c ∷ d ∷ cs) zero x h = refl
get_removed (c ∷ d ∷ cs) (suc l) x h = get_removed (d ∷ cs) l x (omega arith)

pub set_removed : {X : Type 0} (cs : List X) (l : ℕ) (b : X) → suc l < length cs → set (remove cs (suc l)) l b ≡ splice l (b ∷ []) cs
set_removed [] l b h = absurd (omega arith)
set_removed (c ∷ []) l b h = absurd (omega arith)
set_removed (c ∷ d ∷ cs) zero b h = refl
set_removed (c ∷ d ∷ cs) (suc l) b h = ap (λ w. c ∷ w) (set_removed (d ∷ cs) l b (omega arith))

pub insert_removed : {X : Type 0} (cs : List X) (l : ℕ) (b w : X) → suc l < length cs
    → insert (set (remove cs (suc l)) l b) (suc l) w ≡ splice l (b ∷ w ∷ []) cs
insert_removed [] l b w h = absurd (omega arith)
insert_removed (c ∷ []) l b w h = absurd (omega arith)
insert_removed (c ∷ d ∷ []) zero b w h = refl
insert_removed (c ∷ d ∷ e ∷ cs) zero b w h = refl
insert_removed (c ∷ d ∷ cs) (suc l) b w h = ap (λ v. c ∷ v) (insert_removed (d ∷ cs) l b w (omega arith))

pub neighbours : {A : Type 0} (cs : List (Child A)) (l : ℕ) (c r : Child A) → AreNeighbours l cs
    → ArePair (get_or cs l c).node.value (get_or cs (suc l) r).node.value
neighbours [] l c r h = absurd h
neighbours (x ∷ []) l c r h = absurd h
neighbours (x ∷ y ∷ cs) zero c r h = h
neighbours (x ∷ y ∷ cs) (suc l) c r h = neighbours (y ∷ cs) l c r h

pub splice_entries : {A : Type 0} (cs zs : List (Child A)) (l : ℕ) (c r : Child A) → suc l < length cs
    → all_entries zs ≡ entries (get_or cs l c).node.value ++ entries (get_or cs (suc l) r).node.value → all_entries (splice l zs cs) ≡ all_entries cs
splice_entries [] zs l c r h e = absurd (omega arith)
splice_entries (x ∷ []) zs l c r h e = absurd (omega arith)
splice_entries (x ∷ y ∷ cs) zs zero c r h e = entries-append zs cs ∙ ap (λ w. w ++ all_entries cs) e
    ∙ append_assoc (entries x.node.value) (entries y.node.value) (all_entries cs)
splice_entries (x ∷ y ∷ cs) zs (suc l) c r h e = ap (λ w. entries x.node.value ++ w) (splice_entries (y ∷ cs) zs l c r (omega arith) e)

pub splice_labelled : {A : Type 0} (cs zs : List (Child A)) (l : ℕ) → AreLabelled cs → AreLabelled zs → AreLabelled (splice l zs cs)
splice_labelled [] zs l a b = tt
splice_labelled (x ∷ []) zs l a b = tt
splice_labelled (x ∷ y ∷ cs) zs zero a b = AreLabelled-append zs cs b a.1.1
splice_labelled (x ∷ y ∷ cs) zs (suc l) a b = (a.0, splice_labelled (y ∷ cs) zs l a.1 b)

trees_on : {A : Type 0} (h : ℕ) (zs cs : List (Child A)) → AreTrees h (forest_of (trees zs)) → AreTrees h (forest_of (trees cs))
    → AreTrees h (forest_of (trees (zs ++ cs)))
trees_on h [] cs a b = b
trees_on h (z ∷ zs) cs a b = (a.0, a.1, trees_on h zs cs a.2 b)

pub splice_trees : {A : Type 0} (h : ℕ) (cs zs : List (Child A)) (l : ℕ) → AreTreesBut h l cs → AreTrees h (forest_of (trees zs))
    → AreTrees h (forest_of (trees (splice l zs cs)))
splice_trees h [] zs l a b = absurd a
splice_trees h (x ∷ []) zs l a b = absurd a
splice_trees h (x ∷ y ∷ cs) zs zero a b = trees_on h zs cs b a.2
splice_trees h (x ∷ y ∷ cs) zs (suc l) a b = (a.0, a.1, splice_trees h (y ∷ cs) zs l a.2 b)

pub but_level : {A : Type 0} (h : ℕ) (cs : List (Child A)) (l : ℕ) (c : Child A) → AreTreesBut h l cs → IsTree h (get_or cs l c).node.value
but_level h [] l c a = absurd a
but_level h (x ∷ []) l c a = absurd a
but_level h (x ∷ y ∷ cs) zero c a = a.0
but_level h (x ∷ y ∷ cs) (suc l) c a = but_level h (y ∷ cs) l c a.2
