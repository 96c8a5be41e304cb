-- The way of a pair through a row of children.
use Rattle.std.proofs.Common.{◌≡◌, ℕ, ◌-◌, ◌<◌, ◌≤◌, true, false, List, [], ◌∷◌, length, take, drop, get_or, refl, sym, ap, ◌∙◌, arith, zero, suc}
use Rattle.record_values.specs.declared.pair.Pair.{Pair}
use Rattle.node_parts.specs.declared.Child.{Child}
use Rattle.node_parts.specs.Order.{is_below, AllAbove, IsAscending}
use Rattle.node_parts.specs.Tree.{Tree, leaf, branch, entries, forest_of}
use Rattle.node_parts.specs.Seen.{AreLabelled}
use Rattle.node_parts.specs.Rows.{trees}
use Rattle.node_parts.proofs.Order.{AllAbove-right}
use Rattle.node_parts.proofs.Children.{all_entries, place_of, one_zero, zero_true, suc_false}
use Rattle.node_parts.proofs.Local.{above_all}
use Rattle.node_parts.specs.Place.{begins_after, place_in}
use Rattle.btree_node.specs.Path.{path_of, forest_path}
use Rattle.node_parts.proofs.Places.{place_in-row}
use Rattle.btree_node.proofs.At.{IsAt}
use Rattle.btree_node.proofs.Insert.{begins, before_next}

path_after : {A : Type 0} (cs : List (Child A)) (p : Pair) (k : ℕ) (d : Child A) → AreLabelled cs → place_of p cs ≡ suc k
    → forest_path (forest_of (trees cs)) p ≡ path_of (get_or cs k d).node.value p
path_after [] p k d l e = cc
path_after (c ∷ []) p zero d l e = refl
path_after (c ∷ []) p (suc k) d l e = let e' : 0 ≡ suc k = one_zero (is_below p c.least) 0 (suc k) e in absurd (omega arith)
path_after (c ∷ b ∷ cs) p zero d l e =
    let e' : place_of p (b ∷ cs) ≡ 0 = one_zero (is_below p c.least) (place_of p (b ∷ cs)) 0 e in
    let h : begins_after (entries b.node.value) p ≡ true = begins b p l.1.0 ∙ zero_true (is_below p b.least) (place_of p cs) e' in
    rw h
path_after (c ∷ b ∷ cs) p (suc k) d l e =
    let e' : place_of p (b ∷ cs) ≡ suc k = one_zero (is_below p c.least) (place_of p (b ∷ cs)) (suc k) e in
    let h : begins_after (entries b.node.value) p ≡ false = begins b p l.1.0 ∙ suc_false (is_below p b.least) (place_of p cs) k e' in
    rw h (path_after (b ∷ cs) p k d l.1 e')

path_first : {A : Type 0} (cs : List (Child A)) (p : Pair) (d : Child A) → AreLabelled cs → 0 < length cs → AllAbove p (all_entries cs)
    → forest_path (forest_of (trees cs)) p ≡ path_of (get_or cs 0 d).node.value p
path_first [] p d l h a = absurd (omega arith)
path_first (c ∷ []) p d l h a = refl
path_first (c ∷ b ∷ cs) p d l h a =
    let h : begins_after (entries b.node.value) p ≡ true =
    before_next (entries b.node.value) (all_entries cs) p b.least l.1.0 (AllAbove-right p (entries c.node.value) (all_entries (b ∷ cs)) a) in
    rw h

path_at : {A : Type 0} (cs : List (Child A)) (p : Pair) (k n : ℕ) (d : Child A) → AreLabelled cs → IsAscending (all_entries cs) → place_of p cs ≡ n → k ≡ n - 1
    → k < length cs → forest_path (forest_of (trees cs)) p ≡ path_of (get_or cs k d).node.value p
path_at cs p k zero d l a e z h =
    let first : k ≡ 0 = omega arith in
    rw first (path_first cs p d l (omega arith) (above_all cs p l a e))
path_at cs p k (suc n) d l a e z h =
    let same : k ≡ n = omega arith in
    rw same (path_after cs p n d l e)

pub path_child : {A : Type 0} (cs : List (Child A)) (p : Pair) (k : ℕ) (d : Child A) → AreLabelled cs → IsAscending (all_entries cs) → k ≡ place_of p cs - 1
    → k < length cs → forest_path (forest_of (trees cs)) p ≡ path_of (get_or cs k d).node.value p
path_child cs p k d l a z h = path_at cs p k (place_of p cs) d l a refl z h

-- the way through t goes on through u
pub path_through : {A : Type 0} {t u : Tree} {cs : List (Child A)} {k : ℕ} {c : Child A} {p : Pair} → IsAt t u cs k c p → path_of t p ≡ k ∷ path_of u p
path_through {u = u} {cs} {k} {c} {p} a =
    let same : (get_or cs k c).node.value ≡ u = ap (λ x. x.node.value) (sym a.child) ∙ sym a.tree in
    let here : place_in (branch (forest_of (trees cs))) p ≡ k = place_in-row p cs _ refl a.labelled ∙ sym a.place in
    let on : forest_path (forest_of (trees cs)) p ≡ path_of u p = path_child cs p k c a.labelled a.ascending a.place a.in_range ∙ ap (λ x. path_of x p) same in
    ap (λ x. path_of x p) a.seen ∙ rw (here, on) refl

-- a path has a place in the top node, and the rest of it is the path in the child
pub path_some : (t : Tree) (p : Pair) → 1 ≤ length (path_of t p)
path_some (leaf es) p = omega arith
path_some (branch f) p = omega arith

pub path_head : (t : Tree) (p : Pair) (ks : List ℕ) → ks ≡ path_of t p → get_or ks 0 0 ≡ place_in t p
path_head (leaf es) p ks e = ap (λ w. get_or w 0 0) e
path_head (branch f) p ks e = ap (λ w. get_or w 0 0) e

pub path_rest : {A : Type 0} {t u : Tree} {cs : List (Child A)} {k : ℕ} {c : Child A} {p : Pair} (ks : List ℕ) → IsAt t u cs k c p → ks ≡ path_of t p
    → take (length ks - 1) (drop 1 ks) ≡ path_of u p
path_rest {u = u} {k = k} {p = p} ks a e = rw (e ∙ path_through a) (ap (λ n. take n (path_of u p)) (omega arith) ∙ take_all (path_of u p))
  where
    take_all : (xs : List ℕ) → take (length xs) xs ≡ xs
    take_all [] = refl
    take_all (x ∷ xs) = ap (λ w. x ∷ w) (take_all xs)
