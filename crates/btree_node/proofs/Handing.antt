-- Entries of a full leaf handed to its left neighbour.
use Rattle.std.proofs.Common.{◌≡◌, ℕ, ◌+◌, ◌-◌, ◌<◌, ◌≤◌, ◌==◌, Bool, true, false, not, cond, List, [], ◌∷◌, ◌++◌, length, take, drop, get_or, Some, refl}
use Rattle.std.proofs.Common.{sym, ap, subst, ◌∙◌, arith, zero, suc}
use Rattle.std.proofs.lemmas.Bool.Decides.{nat_tests}
use Rattle.std.proofs.lemmas.List.{append-nil}
use Rattle.std.proofs.Math.ListN.{set, length-set}
use Rattle.std.specs.List.{insert, remove}
use Rattle.record_values.specs.declared.pair.Pair.{Pair}
use Rattle.node_parts.specs.declared.Child.{Child}
use Rattle.node_parts.specs.Balance.{IsTree, AreTrees}
use Rattle.node_parts.specs.Order.{is_below, IsAscending}
use Rattle.node_parts.specs.Place.{begins_after}
use Rattle.node_parts.specs.Rows.{trees}
use Rattle.node_parts.specs.Seen.{least_of, AreLabelled}
use Rattle.node_parts.specs.Tree.{Tree, leaf, branch, entries, forest_of, trees_of, count, depth, forest_depth, IsLeaf}
use Rattle.node_parts.proofs.Children.{all_entries, place_of, zero_true, one_zero, suc_false}
use Rattle.node_parts.proofs.Local.{label_at, entries-set, AreLabelled-set}
use Rattle.node_parts.proofs.Places.{place_in-row}
use Rattle.node_parts.proofs.RowLemmas as rows
use Rattle.btree_node.specs.Handed.{CanHand, HasRoomAt, parent}
use Rattle.btree_node.specs.Mended.{AreTreesBut}
use Rattle.btree_node.specs.Splits.{splits, forest_splits, is_before_all}
use Rattle.btree_node.specs.Top.{nodes_for}
use Rattle.btree_node.specs.Contents.{contents}
use Rattle.btree_node.proofs.Insert.{begins, child_tree, trees-set, splits_child}
use Rattle.btree_node.proofs.Marks.{whole}
use Rattle.btree_node.proofs.Placed.{no_split, no_top, trees-same}
use Rattle.btree_node.proofs.Splice as splice
use Rattle.btree_node.proofs.Splice.{splice as put_for}
use Rattle.btree_node.proofs.Top.{root_deep}
use Rattle.btree_node.proofs.At as at
use Rattle.btree_node.proofs.At.{IsAt}

same_at : {X : Type 0} (xs : List X) (k : ℕ) (x y : X) → k < length xs → get_or xs k x ≡ get_or xs k y
same_at [] k x y h = absurd (omega arith)
same_at (a ∷ xs) zero x y h = refl
same_at (a ∷ xs) (suc k) x y h = same_at xs k x y (omega arith)

get_set : {X : Type 0} (xs : List X) (k : ℕ) (x d : X) → k < length xs → get_or (set xs k x) k d ≡ x
get_set [] k x d h = absurd (omega arith)
get_set (a ∷ xs) zero x d h = refl
get_set (a ∷ xs) (suc k) x d h = get_set xs k x d (omega arith)

-- ---- a leaf
pub leaf_some : (t : Tree) → IsLeaf t → 0 < count t → 0 < length (entries t)
leaf_some (leaf es) i h = h
leaf_some (branch f) i h = absurd i

not_full : (n : ℕ) → n < 32 → ◌≡◌ {A = ℕ} (cond (n == 32) 1 0) 0
not_full n h = grind (arith, nat_tests)

-- a leaf that isn't full isn't split
has_room : (t : Tree) (p : Pair) → IsLeaf t → count t < 32 → splits t p ≡ 0
has_room (leaf es) p i h = not_full (length es) h
has_room (branch f) p i h = absurd i

-- of one level are leaves alone, or none
leaf_too : (h : ℕ) (t u : Tree) → IsTree h t → IsTree h u → IsLeaf u → IsLeaf t
leaf_too h (leaf es) u b v i = tt
leaf_too h (branch f) (leaf fs) b v i = absurd (omega (arith, b.0, v.0))
leaf_too h (branch f) (branch g) b v i = absurd i

leaf_level : (h : ℕ) (t u : Tree) → IsTree h t → IsLeaf t → IsLeaf u → count u ≤ 32 → IsTree h u
leaf_level h (leaf es) (leaf fs) b i j m = (b.0, m)
leaf_level h (leaf es) (branch g) b i j m = absurd j
leaf_level h (branch f) u b i j m = absurd i

-- ---- r was taken out of cs at k, from behind c, which left rest; the trees in cs have h levels
pub record IsParted {A : Type 0} (h : ℕ) (cs rest : List (Child A)) (l k : ℕ) (c r : Child A) : Type 0 where
  pub next : k ≡ suc l
  pub in_range : suc l < length cs
  pub left_is : c ≡ get_or cs l c
  pub right_is : r ≡ get_or cs (suc l) r
  pub rest_is : rest ≡ remove cs (suc l)
  pub labelled : AreLabelled cs
  pub level : AreTrees h (forest_of (trees cs))

pub parted_at : {A : Type 0} (cs rest : List (Child A)) (k n : ℕ) (c r : Child A) → 0 < k → k < n → length cs ≡ n → r ≡ get_or cs k r → rest ≡ remove cs k
    → c ≡ get_or rest (k - 1) c → AreLabelled cs → IsTree (depth (parent cs)) (parent cs) → IsParted (depth (parent cs) - 1) cs rest (k - 1) k c r
parted_at cs rest k n c r some h m e f g a t =
    let next : k ≡ suc (k - 1) = omega (arith, some) in
    let inside : suc (k - 1) < length cs = omega (arith, some, h, m) in
    let f' : rest ≡ remove cs (suc (k - 1)) = f ∙ ap (λ (i : ℕ). remove cs i) next in
    let e' : r ≡ get_or cs (suc (k - 1)) r = e ∙ ap (λ (i : ℕ). get_or cs i r) next in
    let g' : c ≡ get_or cs (k - 1) c = g ∙ ap (λ xs. get_or xs (k - 1) c) f' ∙ splice.get_removed cs (k - 1) c inside in
    record { next = next; in_range = inside; left_is = g'; right_is = e'; rest_is = f'; labelled = a; level = t.2 }

left_tree : {A : Type 0} {h : ℕ} {cs rest : List (Child A)} {l k : ℕ} {c r : Child A} → IsParted h cs rest l k c r → (16 ≤ count c.node.value)
    × IsTree h c.node.value
left_tree {h = h} {cs = cs} {l = l} {c = c} a =
    let k : l < length cs = omega (arith, a.in_range) in
    subst (λ x. (16 ≤ count x.node.value) × IsTree h x.node.value) (sym a.left_is) (child_tree h cs l c a.level k)

right_tree : {A : Type 0} {h : ℕ} {cs rest : List (Child A)} {l k : ℕ} {c r : Child A} → IsParted h cs rest l k c r → (16 ≤ count r.node.value)
    × IsTree h r.node.value
right_tree {h = h} {cs = cs} {l = l} {r = r} a =
    subst (λ x. (16 ≤ count x.node.value) × IsTree h x.node.value) (sym a.right_is) (child_tree h cs (suc l) r a.level a.in_range)

pub left_label : {A : Type 0} {h : ℕ} {cs rest : List (Child A)} {l k : ℕ} {c r : Child A} → IsParted h cs rest l k c r
    → least_of (entries c.node.value) ≡ Some c.least
left_label {cs = cs} {l = l} {c = c} a =
    let k : l < length cs = omega (arith, a.in_range) in
    subst (λ x. least_of (entries x.node.value) ≡ Some x.least) (sym a.left_is) (label_at cs l c k a.labelled)

pub leaf_before : {A : Type 0} {h : ℕ} {cs rest : List (Child A)} {l k : ℕ} {c r : Child A} → IsParted h cs rest l k c r → CanHand c r → IsLeaf c.node.value
leaf_before {h = h} {c = c} {r = r} a y = leaf_too h c.node.value r.node.value (left_tree a).1 (right_tree a).1 y.0

-- what was looked at before is what was taken
pub ready : {A : Type 0} {h : ℕ} {cs rest : List (Child A)} {l k : ℕ} {c r : Child A} → IsParted h cs rest l k c r → (x y : Child A) → x ≡ get_or cs l x
    → y ≡ get_or cs k y → CanHand x y → CanHand c r
ready {cs = cs} {l = l} {k = k} {c = c} {r = r} a x y e f h =
    let m : l < length cs = omega (arith, a.in_range) in
    let same : x ≡ c = e ∙ same_at cs l x c m ∙ sym a.left_is in
    let here : y ≡ get_or cs (suc l) y = f ∙ ap (λ (i : ℕ). get_or cs i y) a.next in
    let other : y ≡ r = here ∙ same_at cs (suc l) y r a.in_range ∙ sym a.right_is in
    subst (λ v. CanHand c v) other (subst (λ v. CanHand v y) same h)

-- ---- c and r became b and w
pub record IsHanded {A : Type 0} (c r b w : Child A) : Type 0 where
  pub could : CanHand c r
  pub joined : entries b.node.value ++ entries w.node.value ≡ entries c.node.value ++ entries r.node.value
  pub left_leaf : IsLeaf b.node.value
  pub right_leaf : IsLeaf w.node.value
  pub left_count : count b.node.value ≡ count c.node.value + 8
  pub right_count : count w.node.value ≡ 24
  pub least : b.least ≡ c.least
  pub left_label : least_of (entries b.node.value) ≡ Some b.least
  pub right_label : least_of (entries w.node.value) ≡ Some w.least

handed_row : {A : Type 0} {h : ℕ} {cs rest : List (Child A)} {l k : ℕ} {c r : Child A} (b w : Child A) → IsParted h cs rest l k c r
    → insert (set rest l b) k w ≡ put_for l (b ∷ w ∷ []) cs
handed_row {cs = cs} {rest = rest} {l = l} b w a =
    ap (λ (i : ℕ). insert (set rest l b) i w) a.next ∙ ap (λ xs. insert (set xs l b) (suc l) w) a.rest_is ∙ splice.insert_removed cs l b w a.in_range

both : {A : Type 0} {h : ℕ} {cs rest : List (Child A)} {l k : ℕ} {c r : Child A} → IsParted h cs rest l k c r
    → entries c.node.value ++ entries r.node.value ≡ entries (get_or cs l c).node.value ++ entries (get_or cs (suc l) r).node.value
both {cs = cs} {l = l} {c = c} {r = r} a = ap (λ x. entries x.node.value ++ entries r.node.value) a.left_is
    ∙ ap (λ x. entries (get_or cs l c).node.value ++ entries x.node.value) a.right_is

pub handed_entries : {A : Type 0} {h : ℕ} {cs rest : List (Child A)} {l k : ℕ} {c r b w : Child A} → IsParted h cs rest l k c r → IsHanded c r b w
    → all_entries (insert (set rest l b) k w) ≡ all_entries cs
handed_entries {cs = cs} {l = l} {c = c} {r = r} {b = b} {w = w} a n =
    ap all_entries (handed_row b w a)
    ∙ splice.splice_entries cs (b ∷ w ∷ []) l c r a.in_range (ap (λ x. entries b.node.value ++ x) (append-nil (entries w.node.value)) ∙ n.joined ∙ both a)

pub handed_labelled : {A : Type 0} {h : ℕ} {cs rest : List (Child A)} {l k : ℕ} {c r b w : Child A} → IsParted h cs rest l k c r → IsHanded c r b w
    → AreLabelled (insert (set rest l b) k w)
handed_labelled {cs = cs} {l = l} {b = b} {w = w} a n =
    subst AreLabelled (sym (handed_row b w a)) (splice.splice_labelled cs (b ∷ w ∷ []) l a.labelled (n.left_label, (n.right_label, tt)))

trees_but : {A : Type 0} (h : ℕ) (cs : List (Child A)) (l : ℕ) → AreTrees h (forest_of (trees cs)) → suc l < length cs → AreTreesBut h l cs
trees_but h [] l t m = absurd (omega arith)
trees_but h (c ∷ []) l t m = absurd (omega arith)
trees_but h (c ∷ d ∷ cs) zero t m = (t.1, t.2.1, t.2.2)
trees_but h (c ∷ d ∷ cs) (suc l) t m = (t.0, t.1, trees_but h (d ∷ cs) l t.2 (omega arith))

length-put_for : {X : Type 0} (cs : List X) (l : ℕ) (b w : X) → suc l < length cs → length (put_for l (b ∷ w ∷ []) cs) ≡ length cs
length-put_for [] l b w m = absurd (omega arith)
length-put_for (c ∷ []) l b w m = absurd (omega arith)
length-put_for (c ∷ d ∷ cs) zero b w m = refl
length-put_for (c ∷ d ∷ cs) (suc l) b w m = ap suc (length-put_for (d ∷ cs) l b w (omega arith))

left_after : {A : Type 0} {h : ℕ} {cs rest : List (Child A)} {l k : ℕ} {c r b w : Child A} → IsParted h cs rest l k c r → IsHanded c r b w
    → (16 ≤ count b.node.value) × IsTree h b.node.value
left_after {h = h} {c = c} {b = b} a n = (
  omega (arith, n.left_count, (left_tree a).0),
  leaf_level h c.node.value b.node.value (left_tree a).1 (leaf_before a n.could) n.left_leaf (omega (arith, n.left_count, n.could.2)),
)

right_after : {A : Type 0} {h : ℕ} {cs rest : List (Child A)} {l k : ℕ} {c r b w : Child A} → IsParted h cs rest l k c r → IsHanded c r b w
    → (16 ≤ count w.node.value) × IsTree h w.node.value
right_after {h = h} {r = r} {w = w} a n = (
  omega (arith, n.right_count),
  leaf_level h r.node.value w.node.value (right_tree a).1 n.could.0 n.right_leaf (omega (arith, n.right_count)),
)

handed_trees : {A : Type 0} {h : ℕ} {cs rest : List (Child A)} {l k : ℕ} {c r b w : Child A} → IsParted h cs rest l k c r → IsHanded c r b w
    → AreTrees h (forest_of (trees (insert (set rest l b) k w)))
handed_trees {h = h} {cs = cs} {l = l} {b = b} {w = w} a n =
    let left = left_after a n in
    let right = right_after a n in
    subst (λ xs. AreTrees h (forest_of (trees xs))) (sym (handed_row b w a))
    (splice.splice_trees h cs (b ∷ w ∷ []) l (trees_but h cs l a.level a.in_range) (left.0, left.1, (right.0, right.1, tt)))

pub handed_tree : {A : Type 0} {cs rest : List (Child A)} {l k : ℕ} {c r b w : Child A} → IsTree (depth (parent cs)) (parent cs)
    → IsParted (depth (parent cs) - 1) cs rest l k c r → IsHanded c r b w → IsTree (depth (parent cs)) (parent (insert (set rest l b) k w))
handed_tree {cs = cs} {rest = rest} {l = l} {k = k} {b = b} {w = w} t a n =
    let row : length (insert (set rest l b) k w) ≡ length cs = ap length (handed_row b w a) ∙ length-put_for cs l b w a.in_range in
    (t.0, omega (arith, rows.length-trees (insert (set rest l b) k w), row, rows.length-trees cs, t.1), handed_trees a n)

-- ---- where a pair belongs then
pub before_rest : {A : Type 0} (cs : List (Child A)) (p : Pair) → AreLabelled cs → place_of p cs ≡ 0 → is_before_all p (forest_of (trees cs)) ≡ true
before_rest [] p a e = refl
before_rest (c ∷ cs) p a e = begins c p a.0 ∙ zero_true (is_below p c.least) (place_of p cs) e

-- the first child of the row begins at or below the pair, as before
begins_low : {A : Type 0} (cs : List (Child A)) (l : ℕ) (b w : Child A) (p : Pair) → AreLabelled cs → least_of (entries b.node.value) ≡ Some b.least
    → place_of p cs ≡ suc (suc l) → b.least ≡ (get_or cs l b).least → is_before_all p (forest_of (trees (put_for l (b ∷ w ∷ []) cs))) ≡ false
begins_low [] l b w p a q e m = cc
begins_low (c ∷ []) l b w p a q e m = let e' : 0 ≡ suc l = one_zero (is_below p c.least) 0 (suc l) e in absurd (omega arith)
begins_low (c ∷ d ∷ cs) zero b w p a q e m = begins b p q ∙ ap (λ x. is_below p x) m ∙ suc_false (is_below p c.least) (place_of p (d ∷ cs)) (suc zero) e
begins_low (c ∷ d ∷ cs) (suc l) b w p a q e m = begins c p a.0 ∙ suc_false (is_below p c.least) (place_of p (d ∷ cs)) (suc (suc l)) e

one_of_two : (v u : Bool) (x y z : ℕ) → u ≡ true → x ≡ 0 → y ≡ 0 → cond v x (cond u y z) ≡ 0
one_of_two true u x y z h e f = e
one_of_two false true x y z h e f = f
one_of_two false false x y z h e f = cc

the_second : (v : Bool) (x y : ℕ) → v ≡ false → y ≡ 0 → cond v x y ≡ 0
the_second true x y h e = cc
the_second false x y h e = e

-- a pair that belonged to the second of two children belongs to one of those that took their place
room_at : {A : Type 0} (cs : List (Child A)) (l : ℕ) (b w : Child A) (p : Pair) → AreLabelled cs → least_of (entries b.node.value) ≡ Some b.least
    → place_of p cs ≡ suc (suc l) → b.least ≡ (get_or cs l b).least → splits b.node.value p ≡ 0 → splits w.node.value p ≡ 0
    → forest_splits (forest_of (trees (put_for l (b ∷ w ∷ []) cs))) p ≡ 0
room_at [] l b w p a q e m x y = refl
room_at (c ∷ []) l b w p a q e m x y = refl
room_at (c ∷ d ∷ cs) zero b w p a q e m x y =
    let behind : place_of p (d ∷ cs) ≡ suc zero = one_zero (is_below p c.least) (place_of p (d ∷ cs)) (suc zero) e in
    let after : place_of p cs ≡ 0 = one_zero (is_below p d.least) (place_of p cs) zero behind in
    one_of_two (begins_after (entries w.node.value) p) (is_before_all p (forest_of (trees cs))) (splits b.node.value p) (splits w.node.value p)
    (forest_splits (forest_of (trees cs)) p) (before_rest cs p a.1.1 after) x y
room_at (c ∷ d ∷ cs) (suc l) b w p a q e m x y =
    let behind : place_of p (d ∷ cs) ≡ suc (suc l) = one_zero (is_below p c.least) (place_of p (d ∷ cs)) (suc (suc l)) e in
    the_second (is_before_all p (forest_of (trees (put_for l (b ∷ w ∷ []) (d ∷ cs))))) (splits c.node.value p)
    (forest_splits (forest_of (trees (put_for l (b ∷ w ∷ []) (d ∷ cs)))) p) (begins_low (d ∷ cs) l b w p a.1 q behind m)
    (room_at (d ∷ cs) l b w p a.1 q behind m x y)

deep : {A : Type 0} (cs : List (Child A)) → 0 < length cs → 0 < forest_depth (forest_of (trees cs))
deep [] h = absurd (omega arith)
deep (c ∷ cs) h = omega (arith, root_deep c.node.value)

-- a node isn't split where none below it is
unsplit : {A : Type 0} (cs : List (Child A)) (p : Pair) → 0 < length cs → forest_splits (forest_of (trees cs)) p ≡ 0 → splits (parent cs) p ≡ 0
unsplit cs p some e = no_split (forest_splits (forest_of (trees cs)) p) (forest_depth (forest_of (trees cs)))
    (length (trees_of (forest_of (trees cs))) == 32) (deep cs some) e

pub handed_room : {A : Type 0} {h : ℕ} {cs rest : List (Child A)} {l k : ℕ} {c r b w : Child A} → IsParted h cs rest l k c r → IsHanded c r b w
    → HasRoomAt k cs (insert (set rest l b) k w)
handed_room {cs = cs} {rest = rest} {l = l} {k = k} {c = c} {b = b} {w = w} a n = λ p z.
    let inside : l < length cs = omega (arith, a.in_range) in
    let at_place : k ≡ place_of p cs - 1 = z ∙ place_in-row p cs (parent cs) refl a.labelled in
    let place : place_of p cs ≡ suc (suc l) = omega (arith, a.next, at_place) in
    let low : b.least ≡ (get_or cs l b).least = n.least ∙ ap (λ x. x.least) (a.left_is ∙ same_at cs l c b inside) in
    let left : splits b.node.value p ≡ 0 = has_room b.node.value p n.left_leaf (omega (arith, n.left_count, n.could.2)) in
    let right : splits w.node.value p ≡ 0 = has_room w.node.value p n.right_leaf (omega (arith, n.right_count)) in
    let some : 0 < length (put_for l (b ∷ w ∷ []) cs) = omega (arith, length-put_for cs l b w a.in_range, a.in_range) in
    subst (λ xs. splits (parent xs) p ≡ 0) (sym (handed_row b w a))
    (unsplit (put_for l (b ∷ w ∷ []) cs) p some (room_at cs l b w p a.labelled n.left_label place low left right))

-- ---- the child c was replaced by b, which has the same entries as its tree u
pub record IsKept {A : Type 0} (u : Tree) (c b : Child A) : Type 0 where
  pub entries_are : entries b.node.value ≡ entries u
  pub least_is : b.least ≡ c.least
  pub level : IsTree (depth u) b.node.value
  pub count_is : count b.node.value ≡ count u

pub kept_entries : {A : Type 0} {t u : Tree} {cs : List (Child A)} {k : ℕ} {c b : Child A} {p : Pair} → IsAt t u cs k c p → IsKept u c b
    → all_entries (set cs k b) ≡ entries t
kept_entries {cs = cs} {k = k} {b = b} a n =
    entries-set cs k b a.in_range ∙ ap (λ w. all_entries (take k cs) ++ (w ++ all_entries (drop (suc k) cs))) n.entries_are ∙ sym (whole a)

pub kept_labelled : {A : Type 0} {t u : Tree} {cs : List (Child A)} {k : ℕ} {c b : Child A} {p : Pair} → IsAt t u cs k c p → IsKept u c b
    → AreLabelled (set cs k b)
kept_labelled {cs = cs} {k = k} {b = b} a n =
    AreLabelled-set cs k b a.labelled (ap least_of n.entries_are ∙ at.label a ∙ ap Some (sym n.least_is))

pub kept_tree : {A : Type 0} {t u : Tree} {cs : List (Child A)} {k : ℕ} {c b : Child A} {p : Pair} → IsAt t u cs k c p → IsKept u c b
    → IsTree (depth t) (parent (set cs k b))
kept_tree {t = t} {cs = cs} {k = k} {b = b} a n =
    let low : 16 ≤ count b.node.value = omega (arith, n.count_is, (at.child_level a).0) in (
      (at.levels a).0,
      omega (arith, rows.length-trees (set cs k b), length-set cs k b, (at.levels a).1),
      trees-set (depth t - 1) cs k b (at.levels a).2 low (rw (at.child_depth a) at n.level),
    )

pub kept_count : {A : Type 0} {t u : Tree} {cs : List (Child A)} {k : ℕ} {c b : Child A} {p : Pair} → IsAt t u cs k c p → IsKept u c b
    → length (trees_of (forest_of (trees (set cs k b)))) ≡ count t
kept_count {cs = cs} {k = k} {b = b} a n = rows.length-trees (set cs k b) ∙ length-set cs k b ∙ sym (rows.length-trees cs) ∙ sym (ap count a.seen)

place-set : {A : Type 0} (cs : List (Child A)) (k : ℕ) (b : Child A) (p : Pair) → b.least ≡ (get_or cs k b).least → place_of p (set cs k b) ≡ place_of p cs
place-set [] k b p e = refl
place-set (c ∷ cs) zero b p e = ap (λ q. cond (not (is_below p q)) (1 + place_of p cs) 0) e
place-set (c ∷ cs) (suc k) b p e = ap (λ (n : ℕ). cond (not (is_below p c.least)) (1 + n) 0) (place-set cs k b p e)

pub kept_room : {A : Type 0} {t u : Tree} {cs : List (Child A)} {k : ℕ} {c b : Child A} {p : Pair} → IsAt t u cs k c p → IsKept u c b
    → splits b.node.value p ≡ 0 → splits (parent (set cs k b)) p ≡ 0
kept_room {cs = cs} {k = k} {c = c} {b = b} {p = p} a n e =
    let same : all_entries (set cs k b) ≡ all_entries cs = kept_entries a n ∙ ap entries a.seen in
    let up : IsAscending (all_entries (set cs k b)) = subst IsAscending (sym same) a.ascending in
    let low : b.least ≡ (get_or cs k b).least = n.least_is ∙ ap (λ x. x.least) (a.child ∙ same_at cs k c b a.in_range) in
    let place : k ≡ place_of p (set cs k b) - 1 = a.place ∙ ap (λ (i : ℕ). i - 1) (sym (place-set cs k b p low)) in
    let inside : k < length (set cs k b) = omega (arith, a.in_range, length-set cs k b) in
    unsplit (set cs k b) p (omega (arith, inside)) (splits_child (set cs k b) p k b (kept_labelled a n) up place inside
    ∙ ap (λ x. splits x.node.value p) (get_set cs k b b a.in_range) ∙ e)

pub kept_same : {A : Type 0} {t u : Tree} {cs : List (Child A)} {k : ℕ} {c : Child A} {p : Pair} (b : Child A) → IsAt t u cs k c p → b.node.value ≡ u
    → parent (set cs k b) ≡ t
kept_same {cs = cs} {k = k} {c = c} b a e =
    let same : b.node.value ≡ (get_or cs k c).node.value = e ∙ a.tree ∙ ap (λ x. x.node.value) a.child in
    ap (λ ts. branch (forest_of ts)) (trees-same cs k b c same) ∙ sym a.seen

-- ---- a whole tree
pub no_nodes : (t : Tree) (p : Pair) → 0 < length (entries t) → splits t p ≡ 0 → nodes_for t p ≡ 0
no_nodes (leaf []) p h e = absurd (omega arith)
no_nodes (leaf (x ∷ es)) p h e = no_top (splits (leaf (x ∷ es)) p) 1 (omega arith) e
no_nodes (branch f) p h e = no_top (splits (branch f) p) (depth (branch f)) (root_deep (branch f)) e

pub same_contents : (t u : Tree) → entries t ≡ entries u → contents t ≡ contents u
unfolding contents
same_contents t u e = rw e
