-- Lemmas on the first entry above a pair.
use Rattle.std.proofs.Common.{◌≡◌, ℕ, ◌+◌, ◌-◌, ◌<◌, ◌≤◌, Bool, true, false, cond, List, [], ◌∷◌, ◌++◌, length, take, drop, get_or, Option, Some, None, refl}
use Rattle.std.proofs.Common.{sym, ap, subst, ◌∙◌, arith, zero, suc}
use Rattle.std.specs.Option.{is_some}
use Rattle.record_values.specs.declared.pair.Pair.{Pair}
use Rattle.node_parts.specs.declared.Entry.{Entry}
use Rattle.node_parts.specs.declared.Child.{Child}
use Rattle.node_parts.specs.Order.{is_below, AllAbove}
use Rattle.node_parts.specs.Tree.{Tree, branch, entries, forest_of, count, depth}
use Rattle.node_parts.specs.Rows.{trees}
use Rattle.node_parts.specs.Balance.{IsTree}
use Rattle.node_parts.specs.Seen.{least_of, AreLabelled}
use Rattle.node_parts.proofs.Order.{AllBelow}
use Rattle.node_parts.proofs.Children.{all_entries}
use Rattle.node_parts.proofs.Local.{entries-around, label_at}
use Rattle.node_parts.proofs.Balance.{children_at, depth-tree}
use Rattle.btree_node.specs.Above.{first_of, first_above}
use Rattle.btree_node.proofs.Insert.{below_not_above, around-left, around-right}
use Rattle.btree_node.proofs.At.{IsAt}

past_below : (xs ys : List Entry) (p : Pair) → AllBelow xs p → first_above (xs ++ ys) p ≡ first_above ys p
past_below [] ys p h = refl
past_below (x ∷ xs) ys p h = let b : is_below p x.pair ≡ false = below_not_above x.pair p h.0 in rw b (past_below xs ys p h.1)

of_all : (ys : List Entry) (p : Pair) → AllAbove p ys → first_above ys p ≡ first_of ys
of_all [] p h = refl
of_all (y ∷ ys) p h = rw h.0 refl

found_here : (xs ys : List Entry) (p : Pair) → is_some (first_above xs p) ≡ true → first_above (xs ++ ys) p ≡ first_above xs p
found_here [] ys p h = cc
found_here (x ∷ xs) ys p h = pick (is_below p x.pair) h (found_here xs ys p)
  where
    pick : (v : Bool) → is_some (cond v (Some x) (first_above xs p)) ≡ true → (is_some (first_above xs p) ≡ true → first_above (xs ++ ys) p ≡ first_above xs p)
        → cond v (Some x) (first_above (xs ++ ys) p) ≡ cond v (Some x) (first_above xs p)
    pick true h r = refl
    pick false h r = r h

not_here : (xs ys : List Entry) (p : Pair) → is_some (first_above xs p) ≡ false → first_above (xs ++ ys) p ≡ first_above ys p
not_here [] ys p h = refl
not_here (x ∷ xs) ys p h = pick (is_below p x.pair) h (not_here xs ys p)
  where
    pick : (v : Bool) → is_some (cond v (Some x) (first_above xs p)) ≡ false
        → (is_some (first_above xs p) ≡ false → first_above (xs ++ ys) p ≡ first_above ys p) → cond v (Some x) (first_above (xs ++ ys) p) ≡ first_above ys p
    pick true h r = cc
    pick false h r = r h

-- ---- around a child
pub around : {A : Type 0} {t u : Tree} {cs : List (Child A)} {k : ℕ} {c : Child A} {p : Pair} → IsAt t u cs k c p
    → entries t ≡ all_entries (take k cs) ++ (entries u ++ all_entries (drop (suc k) cs))
around {u = u} {cs} {k} {c} a =
    let same : (get_or cs k c).node.value ≡ u = ap (λ x. x.node.value) (sym a.child) ∙ sym a.tree in
    ap entries a.seen ∙ entries-around cs k c a.in_range ∙ ap (λ x. all_entries (take k cs) ++ (entries x ++ all_entries (drop (suc k) cs))) same

from_child : {A : Type 0} {t u : Tree} {cs : List (Child A)} {k : ℕ} {c : Child A} {p : Pair} → IsAt t u cs k c p
    → first_above (entries t) p ≡ first_above (entries u ++ all_entries (drop (suc k) cs)) p
from_child {u = u} {cs} {k} {p = p} a = ap (λ es. first_above es p) (around a)
    ∙ past_below (all_entries (take k cs)) (entries u ++ all_entries (drop (suc k) cs)) p (around-left cs p k a.labelled a.ascending a.place)

pub found : {A : Type 0} {t u : Tree} {cs : List (Child A)} {k : ℕ} {c : Child A} {p : Pair} → IsAt t u cs k c p → is_some (first_above (entries u) p) ≡ true
    → first_above (entries u) p ≡ first_above (entries t) p
found {u = u} {cs} {k} {p = p} a h = sym (from_child a ∙ found_here (entries u) (all_entries (drop (suc k) cs)) p h)

from_next : {A : Type 0} {t u : Tree} {cs : List (Child A)} {k : ℕ} {c : Child A} {p : Pair} → IsAt t u cs k c p → is_some (first_above (entries u) p) ≡ false
    → first_above (entries t) p ≡ first_of (all_entries (drop (suc k) cs))
from_next {u = u} {cs} {k} {p = p} a h =
    from_child a ∙ not_here (entries u) (all_entries (drop (suc k) cs)) p h
    ∙ of_all (all_entries (drop (suc k) cs)) p (around-right cs p k a.labelled a.ascending a.place)

none_after : {A : Type 0} (cs : List (Child A)) (k : ℕ) → suc k ≡ length cs → first_of (all_entries (drop (suc k) cs)) ≡ None
none_after [] k h = absurd (omega arith)
none_after (c ∷ []) zero h = refl
none_after (c ∷ d ∷ cs) zero h = absurd (omega arith)
none_after (c ∷ cs) (suc k) h = none_after cs k (omega arith)

is_none : (o : Option Entry) → is_some o ≡ false → o ≡ None
is_none None h = refl
is_none (Some e) h = cc

pub last : {A : Type 0} {t u : Tree} {cs : List (Child A)} {k : ℕ} {c : Child A} {p : Pair} → IsAt t u cs k c p → is_some (first_above (entries u) p) ≡ false
    → k + 1 ≡ length cs → first_above (entries u) p ≡ first_above (entries t) p
last {u = u} {cs} {k} {p = p} a h l = is_none (first_above (entries u) p) h ∙ sym (from_next a h ∙ none_after cs k (omega arith))

first_front : (xs ys : List Entry) (e : Entry) → first_of xs ≡ Some e → first_of (xs ++ ys) ≡ Some e
first_front [] ys e h = cc
first_front (x ∷ xs) ys e h = h

first_next : {A : Type 0} (cs : List (Child A)) (k : ℕ) (d : Child A) (e : Entry) → suc k < length cs
    → first_of (entries (get_or cs (suc k) d).node.value) ≡ Some e → first_of (all_entries (drop (suc k) cs)) ≡ Some e
first_next [] k d e l h = absurd (omega arith)
first_next (c ∷ []) zero d e l h = absurd (omega arith)
first_next (c ∷ b ∷ cs) zero d e l h = first_front (entries b.node.value) (all_entries cs) e h
first_next (c ∷ cs) (suc k) d e l h = first_next cs k d e (omega arith) h

pub next : {A : Type 0} {t u : Tree} {cs : List (Child A)} {k : ℕ} {c : Child A} {p : Pair} (v : Tree) (b : Child A) (e : Entry) → IsAt t u cs k c p
    → is_some (first_above (entries u) p) ≡ false → k + 1 < length cs → b ≡ get_or cs (k + 1) b → v ≡ b.node.value → first_of (entries v) ≡ Some e
    → Some e ≡ first_above (entries t) p
next {cs = cs} {k} v b e a h l f g x =
    let one : k + 1 ≡ suc k = omega arith in
    let f' : b ≡ get_or cs (suc k) b = rw one at f in
    let here : first_of (entries (get_or cs (suc k) b).node.value) ≡ Some e = ap (λ w. first_of (entries w.node.value)) (sym f')
    ∙ ap (λ w. first_of (entries w)) (sym g) ∙ x in
    sym (from_next a h ∙ first_next cs k b e (omega arith) here)

some_by : (es : List Entry) (p : Pair) → least_of es ≡ Some p → 0 < length es
some_by [] p h = cc
some_by (e ∷ es) p h = omega arith

pub next_some : {A : Type 0} (cs : List (Child A)) (k : ℕ) (b : Child A) (v : Tree) → AreLabelled cs → k < length cs → b ≡ get_or cs k b → v ≡ b.node.value
    → 0 < length (entries v)
next_some cs k b v l h f g =
    let s : 0 < length (entries (get_or cs k b).node.value) = some_by _ _ (label_at cs k b h l) in
    rw g (subst (λ w. 0 < length (entries w.node.value)) (sym f) s)

-- ---- the levels
pub child_levels : {A : Type 0} (cs : List (Child A)) (t u : Tree) (k : ℕ) (c : Child A) → t ≡ branch (forest_of (trees cs)) → c ≡ get_or cs k c
    → u ≡ c.node.value → k < length cs → IsTree (depth t) t → (depth u + 1 ≡ depth t) × IsTree (depth u) u
child_levels cs t u k c e f g l b =
    let w : IsTree (depth t) (branch (forest_of (trees cs))) = subst (λ x. IsTree (depth t) x) e b in
    let same : (get_or cs k c).node.value ≡ u = ap (λ x. x.node.value) (sym f) ∙ sym g in
    let own : (16 ≤ count u) × IsTree (depth t - 1) u = subst (λ x. (16 ≤ count x) × IsTree (depth t - 1) x) same (children_at (depth t - 1) cs k c w.2 l) in
    let d : depth u ≡ depth t - 1 = depth-tree (depth t - 1) u own.1 (omega (arith, own.0)) in
    (omega (arith, d, w.0), rw d own.1)
