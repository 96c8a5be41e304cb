-- The child of an inner node where a pair belongs.
use Rattle.std.proofs.Common.{◌≡◌, ℕ, ◌+◌, ◌-◌, ◌^◌, ◌<◌, ◌≤◌, Bool, true, false, not, cond, ◌==◌, ◌&&◌, List, [], ◌∷◌, ◌++◌, length, take, drop, get_or, Some}
use Rattle.std.proofs.Common.{refl, sym, ap, subst, ◌∙◌, arith, suc, Vec, vec_len, vec_capacity, lit<}
use Rattle.std.proofs.Math.ListN.{set, length-set}
use Rattle.std.proofs.Math.Nat.{one-le-pow}
use Rattle.std.specs.List.{insert, prefix_len}
use Rattle.node_parts.specs.Place.{place_in}
use Rattle.node_parts.proofs.Places.{place_in-row}
use Rattle.record_values.specs.declared.pair.Pair.{Pair}
use Rattle.node_parts.specs.declared.Entry.{Entry}
use Rattle.node_parts.specs.declared.Child.{Child}
use Rattle.node_parts.specs.declared.NodeParts.{NodeParts}
use Rattle.node_parts.specs.declared.NodeParts.TheVariants.{Inner}
use Rattle.node_parts.specs.Order.{is_below, insert_entry, IsAscending}
use Rattle.node_parts.specs.Tree.{Tree, leaf, branch, entries, forest_entries, forest_of, trees_of, trees_of-forest_of, count, depth, forest_depth, IsInner}
use Rattle.node_parts.specs.Seen.{least_of, AreLabelled, tree_of, IsSoundNode}
use Rattle.node_parts.specs.Balance.{IsTree, AreTrees}
use Rattle.node_parts.specs.Rows.{trees, branches}
use Rattle.node_parts.proofs.Children.{all_entries, place_of, child_lower, child_ascending}
use Rattle.node_parts.proofs.Local.{label_at, AreLabelled-set, entries-set}
use Rattle.node_parts.proofs.Balance.{at_least, depth-tree, depth-forest, trees-insert, trees-left, trees-right}
use Rattle.btree_node.specs.Grown.{AreEnough, Nodes}
use Rattle.btree_node.specs.Splits.{splits, forest_splits}
use Rattle.node_parts.proofs.RowLemmas as rows
use Rattle.btree_node.proofs.Insert.{insert-around, entries-set_insert, least-insert, splits_child, splits_full, trees-set, child_tree, forest-append}
use Rattle.btree_node.proofs.Insert.{inner-branches}

-- u is the tree of the child c at the place k of a pair in the children cs of t
pub record IsAt {A : Type 0} (t u : Tree) (cs : List (Child A)) (k : ℕ) (c : Child A) (p : Pair) : Type 0 where
  pub seen : t ≡ branch (forest_of (trees cs))
  pub labelled : AreLabelled cs
  pub ascending : IsAscending (all_entries cs)
  pub place : k ≡ place_of p cs - 1
  pub in_range : k < length cs
  pub child : c ≡ get_or cs k c
  pub tree : u ≡ c.node.value
  pub level : IsTree (depth t) t

pub prefix_len-upto : {X : Type 0} (p : X → Bool) (xs : List X) → prefix_len p xs ≤ length xs
prefix_len-upto p [] = omega arith
prefix_len-upto p (x ∷ xs) = pick (prefix_len-upto p xs) (p x)
  where
    pick : prefix_len p xs ≤ length xs → (b : Bool) → cond b (1 + prefix_len p xs) 0 ≤ length (x ∷ xs)
    pick h true = omega (arith, h)
    pick h false = omega arith

-- a pair belongs to a child that there is
pub at_range : {A : Type 0} (parts : NodeParts A) (row : Vec (Child A) A) (t : Tree) (k : ℕ) (p : Pair) → tree_of parts ≡ t → parts ≡ Inner row
    → IsSoundNode parts → 0 < length (entries t) → k ≡ place_in t p → k < length row.items
at_range parts row t k p v e i s z =
    let seen : t ≡ branch (forest_of (trees row.items)) = sym v ∙ ap tree_of e in
    let some : 0 < length row.items = rows.some_child row.items (rw seen at s) in
    let sound : (vec_len row ≤ 32) × (32 ≤ vec_capacity row) × AreLabelled row.items = subst IsSoundNode e i in
    omega (arith, z ∙ place_in-row p row.items t seen sound.2, some, prefix_len-upto (λ x. not (is_below p x.least)) row.items)

pub at_child : {A : Type 0} (parts : NodeParts A) (row : Vec (Child A) A) (t u : Tree) (k : ℕ) (c : Child A) (p : Pair) → tree_of parts ≡ t → parts ≡ Inner row
    → IsSoundNode parts → IsAscending (entries t) → 0 < length (entries t) → IsTree (depth t) t → k ≡ place_in t p → c ≡ get_or row.items k c → u ≡ c.node.value
    → IsAt t u row.items k c p
at_child parts row t u k c p v e i a s b z d f =
    let seen : t ≡ branch (forest_of (trees row.items)) = sym v ∙ ap tree_of e in
    let some : 0 < length row.items = rows.some_child row.items (rw seen at s) in
    let sound : (vec_len row ≤ 32) × (32 ≤ vec_capacity row) × AreLabelled row.items = subst IsSoundNode e i in
    let place : k ≡ place_of p row.items - 1 = z ∙ place_in-row p row.items t seen sound.2 in
    record {
      seen = seen;
      labelled = sound.2;
      ascending = rw seen at a;
      place = place;
      in_range = omega (arith, place, some, prefix_len-upto (λ x. not (is_below p x.least)) row.items);
      child = d;
      tree = f;
      level = b;
    }

pub lower : {A : Type 0} {t u : Tree} {cs : List (Child A)} {k : ℕ} {c : Child A} {p : Pair} → IsAt t u cs k c p → depth u < depth t
lower {t} {u} {cs} {k} {c} a = child_lower cs t u k c a.seen a.child a.tree a.in_range

pub ascending : {A : Type 0} {t u : Tree} {cs : List (Child A)} {k : ℕ} {c : Child A} {p : Pair} → IsAt t u cs k c p → IsAscending (entries u)
ascending {t} {u} {cs} {k} {c} a = child_ascending cs t u k c a.seen a.child a.tree a.in_range (rw a.seen a.ascending)

same_child : {A : Type 0} {t u : Tree} {cs : List (Child A)} {k : ℕ} {c : Child A} {p : Pair} → IsAt t u cs k c p → (get_or cs k c).node.value ≡ u
same_child a = ap (λ x. x.node.value) (sym a.child) ∙ sym a.tree

pub levels : {A : Type 0} {t u : Tree} {cs : List (Child A)} {k : ℕ} {c : Child A} {p : Pair} → IsAt t u cs k c p → (1 < depth t) × (length cs ≤ 32)
    × AreTrees (depth t - 1) (forest_of (trees cs))
levels {t} {u} {cs} a =
    let l : IsTree (depth t) (branch (forest_of (trees cs))) = subst (λ x. IsTree (depth t) x) a.seen a.level in
    (l.0, rw (rows.length-trees cs) at l.1, l.2)

pub child_level : {A : Type 0} {t u : Tree} {cs : List (Child A)} {k : ℕ} {c : Child A} {p : Pair} → IsAt t u cs k c p → (16 ≤ count u) × IsTree (depth t - 1) u
child_level {t} {u} {cs} {k} {c} a = subst (λ x. (16 ≤ count x)
    × IsTree (depth t - 1) x) (same_child a) (child_tree (depth t - 1) cs k c (levels a).2 a.in_range)

pub child_depth : {A : Type 0} {t u : Tree} {cs : List (Child A)} {k : ℕ} {c : Child A} {p : Pair} → IsAt t u cs k c p → depth u ≡ depth t - 1
child_depth {t} {u} a = depth-tree (depth t - 1) u (child_level a).1 (omega (arith, (child_level a).0))

pub level : {A : Type 0} {t u : Tree} {cs : List (Child A)} {k : ℕ} {c : Child A} {p : Pair} → IsAt t u cs k c p → IsTree (depth u) u
level {u} a = rw (child_depth a) (child_level a).1

pub not_empty : (h : ℕ) (t : Tree) → IsTree h t → 16 ≤ count t → 0 < length (entries t)
not_empty h t b k = let one : 1 ≤ 16 ^ h = one-le-pow h 16 (lit< tt) in omega (arith, one, at_least h t b k)

pub some : {A : Type 0} {t u : Tree} {cs : List (Child A)} {k : ℕ} {c : Child A} {p : Pair} → IsAt t u cs k c p → 0 < length (entries u)
some {t} {u} a = not_empty (depth t - 1) u (child_level a).1 (child_level a).0

-- ---- splits
pub splits_of : {A : Type 0} {t u : Tree} {cs : List (Child A)} {k : ℕ} {c : Child A} {p : Pair} → IsAt t u cs k c p
    → splits t p ≡ splits u p + cond ((splits u p == depth u) && (length cs == 32)) 1 0
splits_of {t} {u} {cs} {k} {c} {p} a =
    let s : forest_splits (forest_of (trees cs)) p ≡ splits u p = splits_child cs p k c a.labelled a.ascending a.place a.in_range
    ∙ ap (λ x. splits x p) (same_child a) in
    let some : 0 < length (trees_of (forest_of (trees cs))) = omega (arith, rows.length-trees cs, a.in_range) in
    let d : forest_depth (forest_of (trees cs)) ≡ depth u = depth-forest (depth t - 1) (forest_of (trees cs)) (levels a).2 some ∙ sym (child_depth a) in
    ap (λ x. splits x p) a.seen ∙ rw (s, d, rows.length-trees cs) refl

pub enough : {A : Type 0} {t u : Tree} {cs : List (Child A)} {k : ℕ} {c : Child A} {p : Pair} → IsAt t u cs k c p → (s : Nodes) → AreEnough (splits t p) s
    → AreEnough (splits u p) s
enough a s h = (λ m. h.0 (omega (arith, splits_of a, m)), omega (arith, splits_of a, h.1))

pub all_full : {A : Type 0} {t u : Tree} {cs : List (Child A)} {k : ℕ} {c : Child A} {p : Pair} → IsAt t u cs k c p → splits u p ≡ depth u → length cs ≡ 32
    → splits t p ≡ depth t
all_full {t} {u} {cs} {p = p} a e f =
    let more : splits t p ≡ splits u p + 1 = splits_of a ∙ splits_full (splits u p) (depth u) (length cs) e f in
    omega (arith, more, e, child_depth a, (levels a).0)

-- ---- after the insertion below
pub new_label : (u v : Tree) (e : Entry) (q : Pair) (ys : List Entry) → least_of (entries u) ≡ Some q → 0 < length (entries v)
    → entries v ++ ys ≡ insert_entry (entries u) e → least_of (entries v) ≡ Some (cond (is_below q e.pair) q e.pair)
new_label u v e q ys l s n = of_front (entries v) s (ap least_of n ∙ least-insert (entries u) e q l)
  where
    of_front : (xs : List Entry) → 0 < length xs → least_of (xs ++ ys) ≡ Some (cond (is_below q e.pair) q e.pair)
        → least_of xs ≡ Some (cond (is_below q e.pair) q e.pair)
    of_front [] s m = absurd (omega arith)
    of_front (x ∷ xs) s m = m

pub label : {A : Type 0} {t u : Tree} {cs : List (Child A)} {k : ℕ} {c : Child A} {p : Pair} → IsAt t u cs k c p → least_of (entries u) ≡ Some c.least
label {t} {u} {cs} {k} {c} a =
    let l : least_of (entries (get_or cs k c).node.value) ≡ Some (get_or cs k c).least = label_at cs k c a.in_range a.labelled in
    ap (λ x. least_of (entries x)) (sym (same_child a)) ∙ l ∙ ap (λ x. Some x.least) (sym a.child)

-- the child c was replaced by b
pub record IsPut {A : Type 0} (u : Tree) (c b : Child A) (e : Entry) (ys : List Entry) : Type 0 where
  pub entries_are : entries b.node.value ++ ys ≡ insert_entry (entries u) e
  pub least_is : b.least ≡ cond (is_below c.least e.pair) c.least e.pair
  pub level : IsTree (depth u) b.node.value
  pub low : 16 ≤ count b.node.value

pub put_label : {A : Type 0} {t u : Tree} {cs : List (Child A)} {k : ℕ} {c b : Child A} {e : Entry} {ys : List Entry} → IsAt t u cs k c e.pair
    → IsPut u c b e ys → least_of (entries b.node.value) ≡ Some b.least
put_label {u = u} {c = c} {b} {e} {ys} a n = new_label u b.node.value e c.least ys (label a) (not_empty (depth u) b.node.value n.level n.low) n.entries_are
    ∙ ap Some (sym n.least_is)

pub put_labelled : {A : Type 0} {t u : Tree} {cs : List (Child A)} {k : ℕ} {c b : Child A} {e : Entry} {ys : List Entry} → IsAt t u cs k c e.pair
    → IsPut u c b e ys → AreLabelled (set cs k b)
put_labelled {cs = cs} {k} {b = b} a n = AreLabelled-set cs k b a.labelled (put_label a n)

pub put_trees : {A : Type 0} {t u : Tree} {cs : List (Child A)} {k : ℕ} {c b : Child A} {e : Entry} {ys : List Entry} → IsAt t u cs k c e.pair
    → IsPut u c b e ys → AreTrees (depth t - 1) (forest_of (trees (set cs k b)))
put_trees {t} {cs = cs} {k} {b = b} a n = trees-set (depth t - 1) cs k b (levels a).2 n.low (rw (child_depth a) at n.level)

put_all : {A : Type 0} {t u : Tree} {cs : List (Child A)} {k : ℕ} {c b : Child A} {e : Entry} {ys : List Entry} → IsAt t u cs k c e.pair → IsPut u c b e ys
    → all_entries (take k cs) ++ (entries b.node.value ++ (ys ++ all_entries (drop (suc k) cs))) ≡ insert_entry (entries t) e
put_all {t} {u} {cs} {k} {c} {b} {e} {ys} a n =
    insert-around cs k c e (entries b.node.value) ys a.labelled a.ascending a.place a.in_range (n.entries_are
    ∙ ap (λ x. insert_entry (entries x) e) (sym (same_child a)))
    ∙ ap (λ x. insert_entry (entries x) e) (sym a.seen)

-- it was not split
pub put_entries : {A : Type 0} {t u : Tree} {cs : List (Child A)} {k : ℕ} {c b : Child A} {e : Entry} → IsAt t u cs k c e.pair → IsPut u c b e []
    → all_entries (set cs k b) ≡ insert_entry (entries t) e
put_entries {cs = cs} {k} {b = b} a n = entries-set cs k b a.in_range ∙ put_all a n

pub put_tree : {A : Type 0} {t u : Tree} {cs : List (Child A)} {k : ℕ} {c b : Child A} {e : Entry} {ys : List Entry} → IsAt t u cs k c e.pair → IsPut u c b e ys
    → IsTree (depth t) (branch (forest_of (trees (set cs k b))))
put_tree {cs = cs} {k} {b = b} a n = ((levels a).0, omega (arith, rows.length-trees (set cs k b), length-set cs k b, (levels a).1), put_trees a n)

pub put_count : {A : Type 0} {t u : Tree} {cs : List (Child A)} {k : ℕ} {c b : Child A} {e : Entry} {ys : List Entry} → IsAt t u cs k c e.pair
    → IsPut u c b e ys → count t ≤ length (trees_of (forest_of (trees (set cs k b))))
put_count {t} {cs = cs} {k} {b = b} a n = omega (arith, ap count a.seen, rows.length-trees cs, rows.length-trees (set cs k b), length-set cs k b)

-- it was split, and w is the upper half
pub split_entries : {A : Type 0} {t u : Tree} {cs : List (Child A)} {k : ℕ} {c b : Child A} {e : Entry} (w : Child A) → IsAt t u cs k c e.pair
    → IsPut u c b e (entries w.node.value) → all_entries (insert (set cs k b) (k + 1) w) ≡ insert_entry (entries t) e
split_entries {cs = cs} {k} {b = b} w a n =
    let one : k + 1 ≡ suc k = omega arith in
    rw one (entries-set_insert cs k b w a.in_range ∙ put_all a n)

pub split_labelled : {A : Type 0} {t u : Tree} {cs : List (Child A)} {k : ℕ} {c b : Child A} {e : Entry} {ys : List Entry} (w : Child A)
    → IsAt t u cs k c e.pair → IsPut u c b e ys → least_of (entries w.node.value) ≡ Some w.least → AreLabelled (insert (set cs k b) (k + 1) w)
split_labelled {cs = cs} {k} {b = b} w a n l = rows.labelled-insert (set cs k b) (k + 1) w (put_labelled a n) l

pub split_trees : {A : Type 0} {t u : Tree} {cs : List (Child A)} {k : ℕ} {c b : Child A} {e : Entry} {ys : List Entry} (w : Child A) → IsAt t u cs k c e.pair
    → IsPut u c b e ys → 16 ≤ count w.node.value → IsTree (depth u) w.node.value
    → AreTrees (depth t - 1) (forest_of (insert (trees (set cs k b)) (k + 1) w.node.value))
split_trees {t} {cs = cs} {k} {b = b} w a n l v = trees-insert (depth t - 1) (trees (set cs k b)) (k + 1) w.node.value (put_trees a n) l
    (rw (child_depth a) at v)

-- the row was cut in two, left and the one of the inner node y
pub cut_entries : {A : Type 0} {t u : Tree} {cs : List (Child A)} {k : ℕ} {c b : Child A} {e : Entry} (w : Child A) (left : List (Child A)) (y : Tree)
    → IsAt t u cs k c e.pair → IsPut u c b e (entries w.node.value) → trees left ++ branches y ≡ insert (trees (set cs k b)) (k + 1) w.node.value → IsInner y
    → all_entries left ++ entries y ≡ insert_entry (entries t) e
cut_entries {cs = cs} {k} {b = b} w left y a n j i =
    ap (λ x. all_entries left ++ entries x) (inner-branches y i)
    ∙ sym (forest-append (trees left) (branches y))
    ∙ ap (λ x. forest_entries (forest_of x)) (j ∙ sym (rows.trees-insert (set cs k b) (k + 1) w))
    ∙ split_entries w a n

pub cut_trees : {A : Type 0} {t u : Tree} {cs : List (Child A)} {k : ℕ} {c b : Child A} {e : Entry} (w : Child A) (left : List (Child A)) (y : Tree)
    → IsAt t u cs k c e.pair → IsPut u c b e (entries w.node.value) → trees left ++ branches y ≡ insert (trees (set cs k b)) (k + 1) w.node.value
    → 16 ≤ count w.node.value → IsTree (depth u) w.node.value → AreTrees (depth t - 1) (forest_of (trees left ++ branches y))
cut_trees {t} w left y a n j l v = rw j (split_trees w a n l v)

pub cut_tree : {A : Type 0} {t u : Tree} {cs : List (Child A)} {k : ℕ} {c b : Child A} {e : Entry} (w : Child A) (left : List (Child A)) (y : Tree)
    → IsAt t u cs k c e.pair → IsPut u c b e (entries w.node.value) → trees left ++ branches y ≡ insert (trees (set cs k b)) (k + 1) w.node.value
    → 16 ≤ count w.node.value → IsTree (depth u) w.node.value → length left ≤ 32 → IsTree (depth t) (branch (forest_of (trees left)))
cut_tree {t} w left y a n j l v m = (
  (levels a).0,
  omega (arith, rows.length-trees left, m),
  trees-left (depth t - 1) (trees left) (branches y) (cut_trees w left y a n j l v),
)

pub cut_upper : {A : Type 0} {t u : Tree} {cs : List (Child A)} {k : ℕ} {c b : Child A} {e : Entry} (w : Child A) (left : List (Child A)) (y : Tree)
    → IsAt t u cs k c e.pair → IsPut u c b e (entries w.node.value) → trees left ++ branches y ≡ insert (trees (set cs k b)) (k + 1) w.node.value
    → 16 ≤ count w.node.value → IsTree (depth u) w.node.value → IsInner y → count y ≤ 32 → IsTree (depth t) y
cut_upper {t} w left (leaf es) a n j l v i m = absurd i
cut_upper {t} w left (branch f) a n j l v i m =
    let y : Tree = branch f in
    let all : AreTrees (depth t - 1) (forest_of (branches y)) = trees-right (depth t - 1) (trees left) (branches y) (cut_trees w left y a n j l v) in
    let tree : IsTree (depth t) (branch (forest_of (branches y))) = ((levels a).0, rw (trees_of-forest_of (branches y)) m, all) in
    subst (λ x. IsTree (depth t) x) (sym (inner-branches y i)) tree
