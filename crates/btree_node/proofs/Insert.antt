-- What an insertion does to a row of children.
use Rattle.std.proofs.Common.{◌≡◌, ℕ, ◌+◌, ◌-◌, ◌<◌, ◌≤◌, Bool, true, false, cond, ◌==◌, ◌&&◌, List, [], ◌∷◌, ◌++◌, length, take, drop, get_or, Some, refl, sym}
use Rattle.std.proofs.Common.{ap, ◌∙◌, arith, zero, suc, append_assoc}
use Rattle.std.proofs.lemmas.Bool.Decides.{nat_tests}
use Rattle.std.proofs.Math.ListN.{set}
use Rattle.std.specs.List.{insert}
use Rattle.std.specs.Ordering.{is_lt, ordering_reverse}
use Rattle.std.specs.declared.cmp.Ordering.{Ordering}
use Rattle.std.specs.declared.cmp.Ordering.TheVariants.{Less, Equal, Greater}
use Rattle.record_values.specs.declared.pair.Pair.{Pair}
use Rattle.node_parts.specs.declared.Entry.{Entry}
use Rattle.node_parts.specs.declared.Child.{Child}
use Rattle.node_parts.specs.Order.{order, is_below, insert_entry, AllAbove, IsAscending}
use Rattle.node_parts.specs.Tree.{Tree, Forest, leaf, branch, none, more, entries, forest_entries, forest_of, trees_of, count, IsInner}
use Rattle.node_parts.specs.Seen.{least_of, AreLabelled}
use Rattle.node_parts.specs.Balance.{IsTree, AreTrees}
use Rattle.node_parts.specs.Rows.{trees, branches}
use Rattle.node_parts.proofs.Order.{AllBelow, pairs_total, AllAbove-right}
use Rattle.node_parts.proofs.Children.{all_entries, place_of, one_zero, zero_true, suc_false}
use Rattle.node_parts.proofs.Local.{below_left, above_right, above_all, entries-around}
use Rattle.btree_node.specs.Splits.{splits, forest_splits}
use Rattle.node_parts.specs.Place.{begins_after}

-- ---- one more entry
reverse_lt : (o : Ordering) → is_lt o ≡ true → is_lt (ordering_reverse o) ≡ false
reverse_lt Less e = refl
reverse_lt Equal e = cc
reverse_lt Greater e = cc

pub below_not_above : (a b : Pair) → is_below a b ≡ true → is_below b a ≡ false
below_not_above a b h = ap is_lt (pairs_total.antisymm b a) ∙ reverse_lt (order a b) h

pub insert-right : (xs ys : List Entry) (e : Entry) → AllBelow xs e.pair → insert_entry (xs ++ ys) e ≡ xs ++ insert_entry ys e
insert-right [] ys e h = refl
insert-right (x ∷ xs) ys e h = rw (h.0, insert-right xs ys e h.1)

insert_first : (ys : List Entry) (e : Entry) → AllAbove e.pair ys → insert_entry ys e ≡ e ∷ ys
insert_first [] e h = refl
insert_first (y ∷ ys) e h = let b : is_below y.pair e.pair ≡ false = below_not_above e.pair y.pair h.0 in rw b

pub cond_append : (b : Bool) (xs ys zs : List Entry) → cond b (xs ++ zs) (ys ++ zs) ≡ cond b xs ys ++ zs
cond_append true xs ys zs = refl
cond_append false xs ys zs = refl

pub insert-left : (xs ys : List Entry) (e : Entry) → AllAbove e.pair ys → insert_entry (xs ++ ys) e ≡ insert_entry xs e ++ ys
insert-left [] ys e h = insert_first ys e h
insert-left (x ∷ xs) ys e h = rw (insert-left xs ys e h) (cond_append (is_below x.pair e.pair) (x ∷ insert_entry xs e) (e ∷ x ∷ xs) ys)

-- ---- around the child where a pair belongs
left_of : {A : Type 0} (cs : List (Child A)) (p : Pair) (k n : ℕ) → AreLabelled cs → IsAscending (all_entries cs) → place_of p cs ≡ n → k ≡ n - 1
    → AllBelow (all_entries (take k cs)) p
left_of [] p zero n l a e z = tt
left_of [] p (suc k) n l a e z = tt
left_of (c ∷ cs) p zero n l a e z = tt
left_of (c ∷ cs) p (suc k) n l a e z = below_left (c ∷ cs) p (suc k) l a (e ∙ omega arith)

pub around-left : {A : Type 0} (cs : List (Child A)) (p : Pair) (k : ℕ) → AreLabelled cs → IsAscending (all_entries cs) → k ≡ place_of p cs - 1
    → AllBelow (all_entries (take k cs)) p
around-left cs p k l a z = left_of cs p k (place_of p cs) l a refl z

right_of : {A : Type 0} (cs : List (Child A)) (p : Pair) (k n : ℕ) → AreLabelled cs → IsAscending (all_entries cs) → place_of p cs ≡ n → k ≡ n - 1
    → AllAbove p (all_entries (drop (suc k) cs))
right_of [] p k n l a e z = tt
right_of (c ∷ cs) p k zero l a e z =
    let first : k ≡ 0 = omega arith in
    let after : AllAbove p (all_entries (c ∷ cs)) = above_all (c ∷ cs) p l a e in
    rw first (AllAbove-right p (entries c.node.value) (all_entries cs) after)
right_of (c ∷ cs) p k (suc n) l a e z = let same : n ≡ k = omega arith in above_right (c ∷ cs) p k l a (e ∙ ap suc same)

pub around-right : {A : Type 0} (cs : List (Child A)) (p : Pair) (k : ℕ) → AreLabelled cs → IsAscending (all_entries cs) → k ≡ place_of p cs - 1
    → AllAbove p (all_entries (drop (suc k) cs))
around-right cs p k l a z = right_of cs p k (place_of p cs) l a refl z

-- ---- the entries after the insertion below
pub insert-around : {A : Type 0} (cs : List (Child A)) (k : ℕ) (d : Child A) (e : Entry) (xs ys : List Entry) → AreLabelled cs → IsAscending (all_entries cs)
    → k ≡ place_of e.pair cs - 1 → k < length cs → xs ++ ys ≡ insert_entry (entries (get_or cs k d).node.value) e
    → all_entries (take k cs) ++ (xs ++ (ys ++ all_entries (drop (suc k) cs))) ≡ insert_entry (all_entries cs) e
insert-around cs k d e xs ys l a z h n =
    let left = all_entries (take k cs) in
    let mid = entries (get_or cs k d).node.value in
    let right = all_entries (drop (suc k) cs) in
    ap (λ w. left ++ w) (sym (append_assoc xs ys right) ∙ ap (λ w. w ++ right) n ∙ sym (insert-left mid right e (around-right cs e.pair k l a z)))
    ∙ sym (insert-right left (mid ++ right) e (around-left cs e.pair k l a z))
    ∙ ap (λ w. insert_entry w e) (sym (entries-around cs k d h))

pub entries-set_insert : {A : Type 0} (cs : List (Child A)) (k : ℕ) (b u : Child A) → k < length cs
    → all_entries (insert (set cs k b) (suc k) u) ≡ all_entries (take k cs) ++ (entries b.node.value ++ (entries u.node.value ++ all_entries (drop (suc k) cs)))
entries-set_insert [] k b u h = absurd (omega arith)
entries-set_insert (c ∷ []) zero b u h = refl
entries-set_insert (c ∷ d ∷ cs) zero b u h = refl
entries-set_insert (c ∷ cs) (suc k) b u h = rw (entries-set_insert cs k b u (omega arith))
    (sym (append_assoc (entries c.node.value) (all_entries (take k cs)) (entries b.node.value ++ (entries u.node.value ++ all_entries (drop (suc k) cs)))))

-- ---- the labels
pub least-insert : (es : List Entry) (e : Entry) (q : Pair) → least_of es ≡ Some q → least_of (insert_entry es e) ≡ Some (cond (is_below q e.pair) q e.pair)
least-insert [] e q h = cc
least-insert (x ∷ es) e q h = let same : x.pair ≡ q = cc in rw (← same) (pick (is_below x.pair e.pair))
  where
    pick : (b : Bool) → least_of (cond b (x ∷ insert_entry es e) (e ∷ x ∷ es)) ≡ Some (cond b x.pair e.pair)
    pick true = refl
    pick false = refl

-- ---- how many nodes are split
pub begins : {A : Type 0} (c : Child A) (p : Pair) → least_of (entries c.node.value) ≡ Some c.least → begins_after (entries c.node.value) p ≡ is_below p c.least
begins c p l = of_entries (entries c.node.value) l
  where
    of_entries : (es : List Entry) → least_of es ≡ Some c.least → begins_after es p ≡ is_below p c.least
    of_entries [] l = cc
    of_entries (e ∷ es) l = let same : e.pair ≡ c.least = cc in rw same

splits_after : {A : Type 0} (cs : List (Child A)) (p : Pair) (k : ℕ) (d : Child A) → AreLabelled cs → place_of p cs ≡ suc k
    → forest_splits (forest_of (trees cs)) p ≡ splits (get_or cs k d).node.value p
splits_after [] p k d l e = cc
splits_after (c ∷ []) p zero d l e = refl
splits_after (c ∷ []) p (suc k) d l e = let e' : 0 ≡ suc k = one_zero (is_below p c.least) 0 (suc k) e in absurd (omega arith)
splits_after (c ∷ b ∷ cs) p zero d l e =
    let e' : place_of p (b ∷ cs) ≡ 0 = one_zero (is_below p c.least) (place_of p (b ∷ cs)) 0 e in
    let h : begins_after (entries b.node.value) p ≡ true = begins b p l.1.0 ∙ zero_true (is_below p b.least) (place_of p cs) e' in
    rw h
splits_after (c ∷ b ∷ cs) p (suc k) d l e =
    let e' : place_of p (b ∷ cs) ≡ suc k = one_zero (is_below p c.least) (place_of p (b ∷ cs)) (suc k) e in
    let h : begins_after (entries b.node.value) p ≡ false = begins b p l.1.0 ∙ suc_false (is_below p b.least) (place_of p cs) k e' in
    rw h (splits_after (b ∷ cs) p k d l.1 e')

pub before_next : (es ys : List Entry) (p q : Pair) → least_of es ≡ Some q → AllAbove p (es ++ ys) → begins_after es p ≡ true
before_next [] ys p q e h = cc
before_next (x ∷ es) ys p q e h = h.0

splits_first : {A : Type 0} (cs : List (Child A)) (p : Pair) (d : Child A) → AreLabelled cs → 0 < length cs → AllAbove p (all_entries cs)
    → forest_splits (forest_of (trees cs)) p ≡ splits (get_or cs 0 d).node.value p
splits_first [] p d l h a = absurd (omega arith)
splits_first (c ∷ []) p d l h a = refl
splits_first (c ∷ b ∷ cs) p d l h a =
    let h : begins_after (entries b.node.value) p ≡ true =
    before_next (entries b.node.value) (all_entries cs) p b.least l.1.0 (AllAbove-right p (entries c.node.value) (all_entries (b ∷ cs)) a) in
    rw h

splits_at : {A : Type 0} (cs : List (Child A)) (p : Pair) (k n : ℕ) (d : Child A) → AreLabelled cs → IsAscending (all_entries cs) → place_of p cs ≡ n
    → k ≡ n - 1 → k < length cs → forest_splits (forest_of (trees cs)) p ≡ splits (get_or cs k d).node.value p
splits_at cs p k zero d l a e z h =
    let first : k ≡ 0 = omega arith in
    rw first (splits_first cs p d l (omega arith) (above_all cs p l a e))
splits_at cs p k (suc n) d l a e z h =
    let same : k ≡ n = omega arith in
    rw same (splits_after cs p n d l e)

pub splits_child : {A : Type 0} (cs : List (Child A)) (p : Pair) (k : ℕ) (d : Child A) → AreLabelled cs → IsAscending (all_entries cs) → k ≡ place_of p cs - 1
    → k < length cs → forest_splits (forest_of (trees cs)) p ≡ splits (get_or cs k d).node.value p
splits_child cs p k d l a z h = splits_at cs p k (place_of p cs) d l a refl z h

pub splits_full : (s d n : ℕ) → s ≡ d → n ≡ 32 → s + cond ((s == d) && (n == 32)) 1 0 ≡ s + 1
splits_full s d n e f = grind (arith, nat_tests)

-- ---- the balance
pub trees-set : {A : Type 0} (h : ℕ) (cs : List (Child A)) (k : ℕ) (b : Child A) → AreTrees h (forest_of (trees cs)) → 16 ≤ count b.node.value
    → IsTree h b.node.value → AreTrees h (forest_of (trees (set cs k b)))
trees-set h [] k b t l v = tt
trees-set h (c ∷ cs) zero b t l v = (l, v, t.2)
trees-set h (c ∷ cs) (suc k) b t l v = (t.0, t.1, trees-set h cs k b t.2 l v)

pub child_tree : {A : Type 0} (h : ℕ) (cs : List (Child A)) (k : ℕ) (d : Child A) → AreTrees h (forest_of (trees cs)) → k < length cs
    → (16 ≤ count (get_or cs k d).node.value) × IsTree h (get_or cs k d).node.value
child_tree h [] k d b l = absurd (omega arith)
child_tree h (c ∷ cs) zero d b l = (b.0, b.1)
child_tree h (c ∷ cs) (suc k) d b l = child_tree h cs k d b.2 (omega arith)

-- ---- a row in two parts
pub forest-append : (ts us : List Tree) → forest_entries (forest_of (ts ++ us)) ≡ forest_entries (forest_of ts) ++ forest_entries (forest_of us)
forest-append [] us = refl
forest-append (t ∷ ts) us = rw (forest-append ts us) (sym (append_assoc (entries t) (forest_entries (forest_of ts)) (forest_entries (forest_of us))))

forest_of-trees_of : (f : Forest) → forest_of (trees_of f) ≡ f
forest_of-trees_of none = refl
forest_of-trees_of (more t f) = ap (λ g. more t g) (forest_of-trees_of f)

pub inner-branches : (t : Tree) → IsInner t → t ≡ branch (forest_of (branches t))
inner-branches (leaf es) h = absurd h
inner-branches (branch f) h = ap branch (sym (forest_of-trees_of f))
