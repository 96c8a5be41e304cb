-- What a removal does to entries and to a row of children.
use Rattle.std.proofs.Common.{◌≡◌, ℕ, ◌+◌, ◌-◌, ◌<◌, ◌≤◌, Bool, true, false, cond, List, [], ◌∷◌, ◌++◌, length, take, drop, get_or, Option, Some, None, refl}
use Rattle.std.proofs.Common.{sym, ap, subst, ◌∙◌, arith, zero, suc, length-append}
use Rattle.std.specs.Prelude.{IsSome}
use Rattle.std.proofs.Math.ListN.{set}
use Rattle.std.specs.List.{remove, prefix_len}
use Rattle.std.specs.Ordering.{is_eq, is_lt}
use Rattle.std.specs.declared.cmp.Ordering.{Ordering}
use Rattle.std.specs.declared.cmp.Ordering.TheVariants.{Less, Equal, Greater}
use Rattle.record_values.specs.declared.pair.Pair.{Pair}
use Rattle.record_values.specs.declared.pair.Mark.{Mark}
use Rattle.node_parts.specs.declared.Entry.{Entry}
use Rattle.node_parts.specs.declared.Child.{Child}
use Rattle.node_parts.specs.Order.{order, is_below, mark_in, AllAbove, IsAscending}
use Rattle.node_parts.specs.Tree.{none, more, forest_entries, Tree, leaf, branch, entries, forest_of, trees_of, count, depth}
use Rattle.node_parts.specs.Seen.{least_of, AreLabelled}
use Rattle.node_parts.specs.Balance.{IsTree, AreTrees, IsRoot, fewest}
use Rattle.node_parts.specs.Rows.{trees}
use Rattle.node_parts.proofs.Order.{AllBelow, below-differs, above-differs, AllAbove-from, mark_in-above, pairs_total}
use Rattle.node_parts.proofs.Children.{all_entries, place_of, mark_in-before, child_marks}
use Rattle.node_parts.proofs.Local.{entries-set, entries-around, AreLabelled-set}
use Rattle.node_parts.proofs.Balance.{depth-tree}
use Rattle.btree_node.specs.Without.{without}
use Rattle.btree_node.specs.Mended.{AreNeighbours, AreTreesBut, ArePair}
use Rattle.node_parts.proofs.RowLemmas as rows
use Rattle.btree_node.proofs.Insert.{cond_append, around-left, around-right, trees-set}
use Rattle.btree_node.proofs.Ascending.{other_below}
use Rattle.btree_node.proofs.At as at
use Rattle.btree_node.proofs.At.{IsAt}

-- ---- entries
without-above : (es : List Entry) (p : Pair) → AllAbove p es → without es p ≡ es
without-above [] p h = refl
without-above (e ∷ es) p h = rw (above-differs p e.pair h.0, without-above es p h.1) refl

without-left : (xs ys : List Entry) (p : Pair) → AllAbove p ys → without (xs ++ ys) p ≡ without xs p ++ ys
without-left [] ys p h = without-above ys p h
without-left (x ∷ xs) ys p h = rw (without-left xs ys p h) (cond_append (is_eq (order x.pair p)) (without xs p) (x ∷ without xs p) ys)

without-right : (xs ys : List Entry) (p : Pair) → AllBelow xs p → without (xs ++ ys) p ≡ xs ++ without ys p
without-right [] ys p h = refl
without-right (x ∷ xs) ys p h = rw (below-differs x.pair p h.0, without-right xs ys p h.1) refl

above_without : (q : Pair) (xs : List Entry) (p : Pair) → AllAbove q xs → AllAbove q (without xs p)
above_without q [] p h = tt
above_without q (x ∷ xs) p h = pick (above_without q xs p h.1) (is_eq (order x.pair p))
  where
    pick : AllAbove q (without xs p) → (v : Bool) → AllAbove q (cond v (without xs p) (x ∷ without xs p))
    pick r true = r
    pick r false = (h.0, r)

pub ascending_without : (xs : List Entry) (p : Pair) → IsAscending xs → IsAscending (without xs p)
ascending_without [] p h = tt
ascending_without (x ∷ xs) p h = pick (ascending_without xs p h.1) (is_eq (order x.pair p))
  where
    pick : IsAscending (without xs p) → (v : Bool) → IsAscending (cond v (without xs p) (x ∷ without xs p))
    pick r true = r
    pick r false = (above_without x.pair xs p h.0, r)

-- where a pair that is present stands in a leaf
abbrev pub Stands : List Entry → Pair → ℕ → Type 0
Stands es p n = (n < length es) × (remove es n ≡ without es p) × (length (without es p) + 1 ≡ length es)

stands_next : (x : Entry) (xs : List Entry) (p : Pair) (n : ℕ) → is_eq (order x.pair p) ≡ false → Stands xs p n → Stands (x ∷ xs) p (1 + n)
stands_next x xs p n e s =
    let one : 1 + n ≡ suc n = omega arith in
    rw (e, one) (omega (arith, s.0), ap (λ w. x ∷ w) s.1, omega (arith, s.2))

no_mark : {X : Type 0} (o : Option Mark) → o ≡ None → IsSome o → X
no_mark None e h = cc
no_mark (Some m) e h = cc

pub equal_of : (o : Ordering) → is_eq o ≡ true → o ≡ Equal
equal_of Less e = cc
equal_of Equal e = refl
equal_of Greater e = cc

pub tied_above : (q p : Pair) (es : List Entry) → order q p ≡ Equal → AllAbove q es → AllAbove p es
tied_above q p [] e h = tt
tied_above q p (y ∷ es) e h = (ap is_lt (sym (pairs_total.congr q p y.pair e)) ∙ h.0, tied_above q p es e h.1)

stands_here : (x : Entry) (xs : List Entry) (p : Pair) → AllAbove x.pair xs → IsSome (mark_in (x ∷ xs) p) → is_below x.pair p ≡ false → Stands (x ∷ xs) p 0
stands_here x xs p a s b = pick (is_eq (order x.pair p)) refl
  where
    pick : (v : Bool) → is_eq (order x.pair p) ≡ v → Stands (x ∷ xs) p 0
    pick true e =
        let none : without xs p ≡ xs = without-above xs p (tied_above x.pair p xs (equal_of (order x.pair p) e) a) in
        rw e (omega arith, sym none, omega (arith, ap length none))
    pick false e = no_mark (mark_in (x ∷ xs) p) (rw e (mark_in-above xs p (AllAbove-from p x.pair xs (other_below x.pair p b e) a))) s

pub stands : (es : List Entry) (p : Pair) → IsAscending es → IsSome (mark_in es p) → Stands es p (prefix_len (λ e. is_below e.pair p) es)
stands [] p a s = cc
stands (x ∷ xs) p a s = pick (λ m. stands xs p a.1 m) (is_below x.pair p) refl
  where
    pick : (IsSome (mark_in xs p) → Stands xs p (prefix_len (λ e. is_below e.pair p) xs)) → (v : Bool) → is_below x.pair p ≡ v
        → Stands (x ∷ xs) p (cond v (1 + prefix_len (λ e. is_below e.pair p) xs) 0)
    pick r true b =
        let e : is_eq (order x.pair p) ≡ false = below-differs x.pair p b in
        stands_next x xs p _ e (r (rw e at s))
    pick r false b = stands_here x xs p a.0 s b

pub stands_parts : (es : List Entry) (p : Pair) (n : ℕ) → Stands es p n → (n < length es) × (remove es n ≡ without es p)
    × (length (without es p) + 1 ≡ length es)
stands_parts es p n s = s

-- ---- the child that has the pair
pub place_some : {A : Type 0} (cs : List (Child A)) (p : Pair) → AreLabelled cs → IsAscending (all_entries cs) → IsSome (mark_in (all_entries cs) p)
    → 0 < place_of p cs
place_some cs p l a s = pick (place_of p cs) refl
  where
    pick : (n : ℕ) → place_of p cs ≡ n → 0 < n
    pick zero e = no_mark (mark_in (all_entries cs) p) (mark_in-before cs p l a e) s
    pick (suc n) e = omega arith

pub child_present : {A : Type 0} {t u : Tree} {cs : List (Child A)} {k : ℕ} {c : Child A} {p : Pair} → IsAt t u cs k c p → IsSome (mark_in (entries t) p)
    → IsSome (mark_in (entries u) p)
child_present {t} {u} {cs} {k} {c} {p} a s =
    let some : 0 < place_of p cs = place_some cs p a.labelled a.ascending (rw a.seen at s) in
    let z : place_of p cs ≡ suc k = omega (arith, some, a.place) in
    subst IsSome (child_marks cs t u k c p a.seen a.child a.tree a.labelled (rw a.seen a.ascending) z) s

fewest_small : (t : Tree) → fewest t ≤ 2
fewest_small (leaf es) = omega arith
fewest_small (branch f) = omega arith

pub child_root : {A : Type 0} {t u : Tree} {cs : List (Child A)} {k : ℕ} {c : Child A} {p : Pair} → IsAt t u cs k c p → IsRoot (depth u) u
child_root {u = u} a = (at.level a, omega (arith, fewest_small u, (at.child_level a).0))

-- the child was replaced by b, which lacks the pair
pub record IsLess {A : Type 0} (u : Tree) (b : Child A) (p : Pair) : Type 0 where
  pub entries_are : entries b.node.value ≡ without (entries u) p
  pub label : least_of (entries b.node.value) ≡ Some b.least
  pub level : IsTree (depth u) b.node.value
  pub count_is : count u ≤ count b.node.value + 1

pub less_entries : {A : Type 0} {t u : Tree} {cs : List (Child A)} {k : ℕ} {c b : Child A} {p : Pair} → IsAt t u cs k c p → IsLess u b p
    → all_entries (set cs k b) ≡ without (entries t) p
less_entries {t} {u} {cs} {k} {c} {b} {p} a n =
    let left = all_entries (take k cs) in
    let right = all_entries (drop (suc k) cs) in
    let same : (get_or cs k c).node.value ≡ u = ap (λ x. x.node.value) (sym a.child) ∙ sym a.tree in
    let whole : entries t ≡ left ++ (entries u ++ right) = ap entries a.seen ∙ entries-around cs k c a.in_range ∙ ap (λ x. left ++ (entries x ++ right)) same in
    entries-set cs k b a.in_range ∙ ap (λ w. left ++ (w ++ right)) n.entries_are
    ∙ sym (ap (λ w. without w p) whole ∙ without-right left (entries u ++ right) p (around-left cs p k a.labelled a.ascending a.place)
    ∙ ap (λ w. left ++ w) (without-left (entries u) right p (around-right cs p k a.labelled a.ascending a.place)))

pub less_labelled : {A : Type 0} {t u : Tree} {cs : List (Child A)} {k : ℕ} {c b : Child A} {p : Pair} → IsAt t u cs k c p → IsLess u b p
    → AreLabelled (set cs k b)
less_labelled {cs = cs} {k} {b = b} a n = AreLabelled-set cs k b a.labelled n.label

own_level : {A : Type 0} {t u : Tree} {cs : List (Child A)} {k : ℕ} {c b : Child A} {p : Pair} → IsAt t u cs k c p → IsLess u b p
    → IsTree (depth t - 1) b.node.value
own_level a n = rw (at.child_depth a) at n.level

pub less_trees : {A : Type 0} {t u : Tree} {cs : List (Child A)} {k : ℕ} {c b : Child A} {p : Pair} → IsAt t u cs k c p → IsLess u b p → 16 ≤ count b.node.value
    → AreTrees (depth t - 1) (forest_of (trees (set cs k b)))
less_trees {t} {cs = cs} {k} {b = b} a n m = trees-set (depth t - 1) cs k b (at.levels a).2 m (own_level a n)

pub row_tree : {A : Type 0} {t u : Tree} {cs : List (Child A)} {k : ℕ} {c : Child A} {p : Pair} → IsAt t u cs k c p → (ds : List (Child A)) → length ds ≤ 32
    → AreTrees (depth t - 1) (forest_of (trees ds)) → IsTree (depth t) (branch (forest_of (trees ds)))
row_tree a ds m b = ((at.levels a).0, omega (arith, rows.length-trees ds, m), b)

pub row_count : {A : Type 0} {t u : Tree} {cs : List (Child A)} {k : ℕ} {c : Child A} {p : Pair} → IsAt t u cs k c p → (ds : List (Child A))
    → length cs ≤ length ds + 1 → count t ≤ length (trees_of (forest_of (trees ds))) + 1
row_count {cs = cs} a ds m = omega (arith, ap count a.seen, rows.length-trees cs, rows.length-trees ds, m)

pub two_children : {A : Type 0} {t u : Tree} {cs : List (Child A)} {k : ℕ} {c : Child A} {p : Pair} → IsAt t u cs k c p → fewest t ≤ count t → 2 ≤ length cs
two_children {cs = cs} a m = let two : 2 ≤ length (trees_of (forest_of (trees cs))) = subst (λ x. fewest x ≤ count x) a.seen m in
    omega (arith, two, rows.length-trees cs)

-- ---- one child is one short
most : (h : ℕ) (t : Tree) → IsTree h t → count t ≤ 32
most h (leaf es) b = b.1
most h (branch f) b = b.1

pair_of : (h : ℕ) (t u : Tree) → IsTree h t → IsTree h u → 15 ≤ count t → 15 ≤ count u → 31 ≤ count t + count u → count t + count u ≤ 47 → ArePair t u
pair_of h t u b c l m s o =
    let d : depth t ≡ h = depth-tree h t b (omega (arith, l)) in
    rw d (b, c, l, m, s, o)

later_neighbours : {A : Type 0} (h : ℕ) (cs : List (Child A)) (j : ℕ) (b : Child A) → AreTrees h (forest_of (trees cs)) → IsTree h b.node.value
    → count b.node.value ≡ 15 → suc j < length cs → AreNeighbours j (set cs (suc j) b)
later_neighbours h [] j b t v n l = absurd (omega arith)
later_neighbours h (c ∷ []) j b t v n l = absurd (omega arith)
later_neighbours h (c ∷ d ∷ cs) zero b t v n l = pair_of h c.node.value b.node.value t.1 v (omega (arith, t.0)) (omega (arith, n)) (omega (arith, t.0, n))
    (omega (arith, n, most h c.node.value t.1))
later_neighbours h (c ∷ d ∷ cs) (suc j) b t v n l = later_neighbours h (d ∷ cs) j b t.2 v n (omega arith)

later_trees : {A : Type 0} (h : ℕ) (cs : List (Child A)) (j : ℕ) (b : Child A) → AreTrees h (forest_of (trees cs)) → IsTree h b.node.value → suc j < length cs
    → AreTreesBut h j (set cs (suc j) b)
later_trees h [] j b t v l = absurd (omega arith)
later_trees h (c ∷ []) j b t v l = absurd (omega arith)
later_trees h (c ∷ d ∷ cs) zero b t v l = (t.1, v, t.2.2)
later_trees h (c ∷ d ∷ cs) (suc j) b t v l = (t.0, t.1, later_trees h (d ∷ cs) j b t.2 v (omega arith))

short_at : {A : Type 0} (h : ℕ) (cs : List (Child A)) (k l : ℕ) (b : Child A) → AreTrees h (forest_of (trees cs)) → IsTree h b.node.value
    → count b.node.value ≡ 15 → k < length cs → 2 ≤ length cs → l ≡ k - 1 → AreNeighbours l (set cs k b) × AreTreesBut h l (set cs k b)
short_at h [] k l b t v n m w e = absurd (omega arith)
short_at h (c ∷ []) k l b t v n m w e = absurd (omega arith)
short_at h (c ∷ d ∷ cs) zero l b t v n m w e =
    let z : l ≡ 0 = omega arith in
    rw z (
      pair_of h b.node.value d.node.value v t.2.1 (omega (arith, n)) (omega (arith, t.2.0)) (omega (arith, t.2.0, n))
          (omega (arith, n, most h d.node.value t.2.1)),
      (v, t.2.1, t.2.2),
    )
short_at h (c ∷ d ∷ cs) (suc k) l b t v n m w e =
    let z : l ≡ k = omega arith in
    rw z (later_neighbours h (c ∷ d ∷ cs) k b t v n m, later_trees h (c ∷ d ∷ cs) k b t v m)

pub short : {A : Type 0} {t u : Tree} {cs : List (Child A)} {k : ℕ} {c b : Child A} {p : Pair} (l : ℕ) → IsAt t u cs k c p → IsLess u b p
    → count b.node.value < 16 → fewest t ≤ count t → l ≡ k - 1 → AreNeighbours l (set cs k b) × AreTreesBut (depth t - 1) l (set cs k b)
short {t} {cs = cs} {k} {b = b} l a n m f e =
    short_at (depth t - 1) cs k l b (at.levels a).2 (own_level a n) (omega (arith, m, n.count_is, (at.child_level a).0)) a.in_range (two_children a f) e

many_some : (h : ℕ) (t : Tree) → IsTree h t → 1 ≤ count t → 0 < length (entries t)
many_some h (leaf es) b k = k
many_some h (branch none) b k = let z : 1 ≤ 0 = k in absurd (omega arith)
many_some h (branch (more t f)) b k = omega (arith, at.not_empty (h - 1) t b.2.1 b.2.0, length-append (entries t) (forest_entries f))

pub less_some : (t u : Tree) → IsTree (depth t) u → count t ≤ count u + 1 → 16 ≤ count t → 0 < length (entries u)
less_some t u b m n = many_some (depth t) u b (omega (arith, m, n))
