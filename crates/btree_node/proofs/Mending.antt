-- Two neighbours of a row levelled.
use Rattle.std.proofs.Common.{◌≡◌, ℕ, ◌+◌, ◌<◌, ◌≤◌, List, [], ◌∷◌, ◌++◌, length, get_or, Some, sym, ap, subst, ◌∙◌, arith, suc}
use Rattle.std.proofs.Math.ListN.{set}
use Rattle.std.proofs.lemmas.List.{append-nil}
use Rattle.std.specs.List.{insert, remove}
use Rattle.node_parts.specs.declared.Child.{Child}
use Rattle.node_parts.specs.Tree.{entries, forest_of, count, depth}
use Rattle.node_parts.specs.Seen.{least_of, AreLabelled}
use Rattle.node_parts.specs.Balance.{IsTree, AreTrees}
use Rattle.node_parts.specs.Rows.{trees}
use Rattle.node_parts.proofs.Children.{all_entries}
use Rattle.node_parts.proofs.Local.{label_at}
use Rattle.node_parts.proofs.Balance.{depth-tree}
use Rattle.btree_node.specs.Mended.{AreNeighbours, AreTreesBut, ArePair}
use Rattle.btree_node.proofs.Splice as splice
use Rattle.btree_node.proofs.Splice.{splice as put_for}

-- r was taken out of cs from behind c, which left rest
pub record IsCut {A : Type 0} (cs rest : List (Child A)) (l : ℕ) (c r : Child A) : Type 0 where
  pub in_range : suc l < length cs
  pub left_is : c ≡ get_or cs l c
  pub right_is : r ≡ get_or cs (suc l) r
  pub rest_is : rest ≡ remove cs (suc l)
  pub pair : ArePair c.node.value r.node.value
  pub labelled : AreLabelled cs

pub cut_at : {A : Type 0} (cs rest : List (Child A)) (l n : ℕ) (c r : Child A) → l + 1 < n → length cs ≡ n → r ≡ get_or cs (l + 1) r → rest ≡ remove cs (l + 1)
    → c ≡ get_or rest l c → AreNeighbours l cs → AreLabelled cs → IsCut cs rest l c r
cut_at cs rest l n c r h m e f g a b =
    let one : l + 1 ≡ suc l = omega arith in
    let k : suc l < length cs = omega (arith, h, m) in
    let f' : rest ≡ remove cs (suc l) = rw one at f in
    let e' : r ≡ get_or cs (suc l) r = rw one at e in
    let g' : c ≡ get_or cs l c = g ∙ ap (λ xs. get_or xs l c) f' ∙ splice.get_removed cs l c k in
    let p : ArePair (get_or cs l c).node.value (get_or cs (suc l) r).node.value = splice.neighbours cs l c r a in
    let q : ArePair c.node.value (get_or cs (suc l) r).node.value = subst (λ x. ArePair x.node.value (get_or cs (suc l) r).node.value) (sym g') p in
    record { in_range = k; left_is = g'; right_is = e'; rest_is = f'; pair = subst (λ x. ArePair c.node.value x.node.value) (sym e') q; labelled = b }

pub left_label : {A : Type 0} {cs rest : List (Child A)} {l : ℕ} {c r : Child A} → IsCut cs rest l c r → least_of (entries c.node.value) ≡ Some c.least
left_label {cs = cs} {l = l} {c = c} a =
    let k : l < length cs = omega (arith, a.in_range) in
    subst (λ x. least_of (entries x.node.value) ≡ Some x.least) (sym a.left_is) (label_at cs l c k a.labelled)

one_row : {A : Type 0} {cs rest : List (Child A)} {l : ℕ} {c r : Child A} (b : Child A) → IsCut cs rest l c r → set rest l b ≡ put_for l (b ∷ []) cs
one_row {cs = cs} {l = l} b a = ap (λ xs. set xs l b) a.rest_is ∙ splice.set_removed cs l b a.in_range

two_row : {A : Type 0} {cs rest : List (Child A)} {l : ℕ} {c r : Child A} (b w : Child A) → IsCut cs rest l c r
    → insert (set rest l b) (l + 1) w ≡ put_for l (b ∷ w ∷ []) cs
two_row {cs = cs} {rest} {l} b w a =
    let one : l + 1 ≡ suc l = omega arith in
    ap (λ k. insert (set rest l b) k w) one ∙ ap (λ xs. insert (set xs l b) (suc l) w) a.rest_is ∙ splice.insert_removed cs l b w a.in_range

both : {A : Type 0} {cs rest : List (Child A)} {l : ℕ} {c r : Child A} → IsCut cs rest l c r
    → entries c.node.value ++ entries r.node.value ≡ entries (get_or cs l c).node.value ++ entries (get_or cs (suc l) r).node.value
both {cs = cs} {l = l} {c} {r} a = ap (λ x. entries x.node.value ++ entries r.node.value) a.left_is
    ∙ ap (λ x. entries (get_or cs l c).node.value ++ entries x.node.value) a.right_is

same_level : {A : Type 0} {cs rest : List (Child A)} {l : ℕ} {c r : Child A} (h : ℕ) → IsCut cs rest l c r → AreTreesBut h l cs → depth c.node.value ≡ h
same_level {cs = cs} {l = l} {c = c} h a t =
    let own : IsTree h c.node.value = subst (λ x. IsTree h x.node.value) (sym a.left_is) (splice.but_level h cs l c t) in
    depth-tree h c.node.value own (omega (arith, a.pair.2))

pub one_entries : {A : Type 0} {cs rest : List (Child A)} {l : ℕ} {c r : Child A} (b : Child A) → IsCut cs rest l c r
    → entries b.node.value ++ [] ≡ entries c.node.value ++ entries r.node.value → all_entries (set rest l b) ≡ all_entries cs
one_entries {cs = cs} {l = l} {c} {r} b a e = ap all_entries (one_row b a) ∙ splice.splice_entries cs (b ∷ []) l c r a.in_range (e ∙ both a)

pub two_entries : {A : Type 0} {cs rest : List (Child A)} {l : ℕ} {c r : Child A} (b w : Child A) → IsCut cs rest l c r
    → entries b.node.value ++ entries w.node.value ≡ entries c.node.value ++ entries r.node.value
    → all_entries (insert (set rest l b) (l + 1) w) ≡ all_entries cs
two_entries {cs = cs} {l = l} {c} {r} b w a e =
    ap all_entries (two_row b w a)
    ∙ splice.splice_entries cs (b ∷ w ∷ []) l c r a.in_range (ap (λ x. entries b.node.value ++ x) (append-nil (entries w.node.value)) ∙ e ∙ both a)

pub one_labelled : {A : Type 0} {cs rest : List (Child A)} {l : ℕ} {c r : Child A} (b : Child A) → IsCut cs rest l c r
    → least_of (entries b.node.value) ≡ Some b.least → AreLabelled (set rest l b)
one_labelled {cs = cs} {l = l} b a e = rw (one_row b a) (splice.splice_labelled cs (b ∷ []) l a.labelled (e, tt))

pub two_labelled : {A : Type 0} {cs rest : List (Child A)} {l : ℕ} {c r : Child A} (b w : Child A) → IsCut cs rest l c r
    → least_of (entries b.node.value) ≡ Some b.least → least_of (entries w.node.value) ≡ Some w.least → AreLabelled (insert (set rest l b) (l + 1) w)
two_labelled {cs = cs} {l = l} b w a e f = rw (two_row b w a) (splice.splice_labelled cs (b ∷ w ∷ []) l a.labelled (e, (f, tt)))

pub one_trees : {A : Type 0} {cs rest : List (Child A)} {l : ℕ} {c r : Child A} (b : Child A) → IsCut cs rest l c r → IsTree (depth c.node.value) b.node.value
    → 16 ≤ count b.node.value → (h : ℕ) → AreTreesBut h l cs → AreTrees h (forest_of (trees (set rest l b)))
one_trees {cs = cs} {l = l} b a v n h t = rw (one_row b a) (splice.splice_trees h cs (b ∷ []) l t (n, rw (same_level h a t) at v, tt))

pub two_trees : {A : Type 0} {cs rest : List (Child A)} {l : ℕ} {c r : Child A} (b w : Child A) → IsCut cs rest l c r → IsTree (depth c.node.value) b.node.value
    → 16 ≤ count b.node.value → IsTree (depth c.node.value) w.node.value → 16 ≤ count w.node.value → (h : ℕ) → AreTreesBut h l cs
    → AreTrees h (forest_of (trees (insert (set rest l b) (l + 1) w)))
two_trees {cs = cs} {l = l} b w a v n u m h t = rw (two_row b w a)
    (splice.splice_trees h cs (b ∷ w ∷ []) l t (n, rw (same_level h a t) at v, (m, rw (same_level h a t) at u, tt)))
