-- Whether room can be made for a pair.
use Rattle.std.proofs.Common.{◌≡◌, ℕ, ◌-◌, ◌<◌, ◌≤◌, ◌==◌, ◌&&◌, ◌||◌, Bool, true, false, cond, List, [], ◌∷◌, length, get_or, refl, sym}
use Rattle.std.proofs.Common.{ap, ◌∙◌, arith, zero, suc}
use Rattle.std.specs.Prelude.{nat_le}
use Rattle.std.proofs.lemmas.Bool.Decides.{nat_tests}
use Rattle.record_values.specs.declared.pair.Pair.{Pair}
use Rattle.node_parts.specs.declared.Child.{Child}
use Rattle.node_parts.specs.Order.{is_below, IsAscending}
use Rattle.node_parts.specs.Place.{begins_after}
use Rattle.node_parts.specs.Rows.{trees}
use Rattle.node_parts.specs.Seen.{AreLabelled}
use Rattle.node_parts.specs.Tree.{Tree, leaf, branch, entries, forest_of, count, IsLeaf}
use Rattle.node_parts.proofs.Order.{AllAbove-right}
use Rattle.node_parts.proofs.Children.{all_entries, place_of, one_zero, suc_false}
use Rattle.node_parts.proofs.Local.{above_all}
use Rattle.btree_node.specs.Handed.{can_hand, can_hand_in, can_hand_at, can_make_room, can_below, parent}
use Rattle.btree_node.specs.Splits.{is_before_all}
use Rattle.btree_node.proofs.Insert.{begins, before_next}
use Rattle.btree_node.proofs.Handing.{before_rest}
use Rattle.btree_node.proofs.At.{IsAt}

-- ---- two neighbours
full_half : (n m : ℕ) → (n == 32) && nat_le m 16 ≡ true → (n ≡ 32) × (m ≤ 16)
full_half n m e = (grind (arith, nat_tests), grind (arith, nat_tests))

pub can_parts : (t u : Tree) → can_hand t u ≡ true → IsLeaf u × (count u ≡ 32) × (count t ≤ 16)
can_parts t (leaf es) e = let h = full_half (length es) (count t) e in (tt, h.0, h.1)
can_parts t (branch f) e = cc

full_is : (n m : ℕ) → n ≡ 32 → m ≤ 16 → (n == 32) && nat_le m 16 ≡ true
full_is n m h k = grind (arith, nat_tests)

can_of : (t u : Tree) → IsLeaf u × (count u ≡ 32) × (count t ≤ 16) → can_hand t u ≡ true
can_of t (leaf es) h = full_is (length es) (count t) h.1 h.2
can_of t (branch f) h = absurd h.0

-- one answer says what the other does
pub same_answer : (r : Bool) (t u : Tree) → (r ≡ true → IsLeaf u × (count u ≡ 32) × (count t ≤ 16))
    → (IsLeaf u × (count u ≡ 32) × (count t ≤ 16) → r ≡ true) → r ≡ can_hand t u
same_answer true t u h k = sym (can_of t u (h refl))
same_answer false t u h k = pick (can_hand t u) refl
  where
    pick : (v : Bool) → can_hand t u ≡ v → false ≡ v
    pick true e = k (can_parts t u e)
    pick false e = refl

-- ---- in a row of children
pub first_hands : {A : Type 0} (cs : List (Child A)) (k : ℕ) → k ≡ 0 → false ≡ can_hand_at k cs
first_hands cs k e = sym (ap (λ (i : ℕ). can_hand_at i cs) e ∙ at_first cs)
  where
    at_first : {A : Type 0} (cs : List (Child A)) → can_hand_at 0 cs ≡ false
    at_first [] = refl
    at_first (c ∷ []) = refl
    at_first (c ∷ d ∷ cs) = refl

at_next : {A : Type 0} (cs : List (Child A)) (l : ℕ) (x y : Child A) → suc l < length cs
    → can_hand (get_or cs l x).node.value (get_or cs (suc l) y).node.value ≡ can_hand_at (suc l) cs
at_next [] l x y m = absurd (omega arith)
at_next (c ∷ []) l x y m = absurd (omega arith)
at_next (c ∷ d ∷ cs) zero x y m = refl
at_next (c ∷ d ∷ cs) (suc l) x y m = at_next (d ∷ cs) l x y (omega arith)

-- the two that were looked at
pub looked_at : {A : Type 0} (cs : List (Child A)) (k n : ℕ) (x y : Child A) → 0 < k → k < n → length cs ≡ n → x ≡ get_or cs (k - 1) x → y ≡ get_or cs k y
    → can_hand x.node.value y.node.value ≡ can_hand_at k cs
looked_at cs k n x y some h m e f =
    let next : k ≡ suc (k - 1) = omega (arith, some) in
    let f' : y ≡ get_or cs (suc (k - 1)) y = f ∙ ap (λ (i : ℕ). get_or cs i y) next in
    ap (λ v. can_hand v.node.value y.node.value) e ∙ ap (λ v. can_hand (get_or cs (k - 1) x).node.value v.node.value) f'
    ∙ at_next cs (k - 1) x y (omega (arith, some, h, m)) ∙ ap (λ (i : ℕ). can_hand_at i cs) (sym next)

-- ---- where a pair belongs
after_rest : {A : Type 0} (cs : List (Child A)) (p : Pair) (k : ℕ) → AreLabelled cs → place_of p cs ≡ suc k → is_before_all p (forest_of (trees cs)) ≡ false
after_rest [] p k a e = cc
after_rest (c ∷ cs) p k a e = begins c p a.0 ∙ suc_false (is_below p c.least) (place_of p cs) k e

-- a pair before all is before the second child too
before_second : {A : Type 0} (c d : Child A) (cs : List (Child A)) (p : Pair) → AreLabelled (c ∷ d ∷ cs) → IsAscending (all_entries (c ∷ d ∷ cs))
    → place_of p (c ∷ d ∷ cs) ≡ 0 → begins_after (entries d.node.value) p ≡ true
before_second c d cs p l a e = before_next (entries d.node.value) (all_entries cs) p d.least l.1.0
    (AllAbove-right p (entries c.node.value) (all_entries (d ∷ cs)) (above_all (c ∷ d ∷ cs) p l a e))

first_of_three : {X : Type 0} (v : Bool) (x y : X) → v ≡ true → cond v x y ≡ x
first_of_three true x y h = refl
first_of_three false x y h = cc

second_of_three : {X : Type 0} (v u : Bool) (w x y : X) → v ≡ false → u ≡ true → cond v w (cond u x y) ≡ x
second_of_three true u w x y h k = cc
second_of_three false true w x y h k = refl
second_of_three false false w x y h k = cc

third_of_three : {X : Type 0} (v u : Bool) (w x y z : X) → v ≡ false → u ≡ false → y ≡ z → cond v w (cond u x y) ≡ z
third_of_three true u w x y z h k e = cc
third_of_three false true w x y z h k e = cc
third_of_three false false w x y z h k e = e

second_of_two : {X : Type 0} (v : Bool) (x y z : X) → v ≡ false → y ≡ z → cond v x y ≡ z
second_of_two true x y z h e = cc
second_of_two false x y z h e = e

hands_after : {A : Type 0} (cs : List (Child A)) (p : Pair) (k : ℕ) → AreLabelled cs → place_of p cs ≡ suc k
    → can_hand_in (forest_of (trees cs)) p ≡ can_hand_at k cs
hands_after [] p k l e = cc
hands_after (c ∷ []) p k l e = refl
hands_after (c ∷ d ∷ cs) p zero l e =
    let here : place_of p (d ∷ cs) ≡ 0 = one_zero (is_below p c.least) (place_of p (d ∷ cs)) zero e in
    first_of_three (begins_after (entries d.node.value) p) false
    (cond (is_before_all p (forest_of (trees cs))) (can_hand c.node.value d.node.value) (can_hand_in (forest_of (trees (d ∷ cs))) p))
    (before_rest (d ∷ cs) p l.1 here)
hands_after (c ∷ d ∷ cs) p (suc zero) l e =
    let here : place_of p (d ∷ cs) ≡ suc zero = one_zero (is_below p c.least) (place_of p (d ∷ cs)) (suc zero) e in
    let after : place_of p cs ≡ 0 = one_zero (is_below p d.least) (place_of p cs) zero here in
    second_of_three (begins_after (entries d.node.value) p) (is_before_all p (forest_of (trees cs))) false (can_hand c.node.value d.node.value)
    (can_hand_in (forest_of (trees (d ∷ cs))) p) (after_rest (d ∷ cs) p zero l.1 here) (before_rest cs p l.1.1 after)
hands_after (c ∷ d ∷ cs) p (suc (suc k)) l e =
    let here : place_of p (d ∷ cs) ≡ suc (suc k) = one_zero (is_below p c.least) (place_of p (d ∷ cs)) (suc (suc k)) e in
    let after : place_of p cs ≡ suc k = one_zero (is_below p d.least) (place_of p cs) (suc k) here in
    third_of_three (begins_after (entries d.node.value) p) (is_before_all p (forest_of (trees cs))) false (can_hand c.node.value d.node.value)
    (can_hand_in (forest_of (trees (d ∷ cs))) p) (can_hand_at (suc k) (d ∷ cs)) (after_rest (d ∷ cs) p (suc k) l.1 here) (after_rest cs p k l.1.1 after)
    (hands_after (d ∷ cs) p (suc k) l.1 here)

none_before : {A : Type 0} (cs : List (Child A)) (p : Pair) → AreLabelled cs → IsAscending (all_entries cs) → place_of p cs ≡ 0
    → can_hand_in (forest_of (trees cs)) p ≡ false
none_before [] p l a e = refl
none_before (c ∷ []) p l a e = refl
none_before (c ∷ d ∷ cs) p l a e =
    first_of_three (begins_after (entries d.node.value) p) false
    (cond (is_before_all p (forest_of (trees cs))) (can_hand c.node.value d.node.value) (can_hand_in (forest_of (trees (d ∷ cs))) p))
    (before_second c d cs p l a e)

hands_by : {A : Type 0} (cs : List (Child A)) (p : Pair) (k n : ℕ) → AreLabelled cs → IsAscending (all_entries cs) → place_of p cs ≡ n → k ≡ n - 1
    → can_hand_in (forest_of (trees cs)) p ≡ can_hand_at k cs
hands_by cs p k zero l a e z = none_before cs p l a e ∙ first_hands cs k (omega arith)
hands_by cs p k (suc n) l a e z =
    let same : n ≡ k = omega arith in
    hands_after cs p n l e ∙ ap (λ (i : ℕ). can_hand_at i cs) same

below_after : {A : Type 0} (cs : List (Child A)) (p : Pair) (k : ℕ) (d : Child A) → AreLabelled cs → place_of p cs ≡ suc k
    → can_below (forest_of (trees cs)) p ≡ can_make_room (get_or cs k d).node.value p
below_after [] p k d l e = cc
below_after (c ∷ cs) p zero d l e =
    let after : place_of p cs ≡ 0 = one_zero (is_below p c.least) (place_of p cs) zero e in
    first_of_three (is_before_all p (forest_of (trees cs))) (can_make_room c.node.value p) (can_below (forest_of (trees cs)) p) (before_rest cs p l.1 after)
below_after (c ∷ cs) p (suc k) d l e =
    let after : place_of p cs ≡ suc k = one_zero (is_below p c.least) (place_of p cs) (suc k) e in
    second_of_two (is_before_all p (forest_of (trees cs))) (can_make_room c.node.value p) (can_below (forest_of (trees cs)) p)
    (can_make_room (get_or cs k d).node.value p) (after_rest cs p k l.1 after) (below_after cs p k d l.1 after)

below_first : {A : Type 0} (cs : List (Child A)) (p : Pair) (d : Child A) → AreLabelled cs → IsAscending (all_entries cs) → 0 < length cs → place_of p cs ≡ 0
    → can_below (forest_of (trees cs)) p ≡ can_make_room (get_or cs 0 d).node.value p
below_first [] p d l a s e = absurd (omega arith)
below_first (c ∷ []) p d l a s e = refl
below_first (c ∷ b ∷ cs) p d l a s e =
    first_of_three (begins_after (entries b.node.value) p) (can_make_room c.node.value p) (can_below (forest_of (trees (b ∷ cs))) p)
    (before_second c b cs p l a e)

below_by : {A : Type 0} (cs : List (Child A)) (p : Pair) (k n : ℕ) (d : Child A) → AreLabelled cs → IsAscending (all_entries cs) → place_of p cs ≡ n
    → k ≡ n - 1 → k < length cs → can_below (forest_of (trees cs)) p ≡ can_make_room (get_or cs k d).node.value p
below_by cs p k zero d l a e z h =
    let first : 0 ≡ k = omega arith in
    below_first cs p d l a (omega arith) e ∙ ap (λ (i : ℕ). can_make_room (get_or cs i d).node.value p) first
below_by cs p k (suc n) d l a e z h =
    let same : n ≡ k = omega arith in
    below_after cs p n d l e ∙ ap (λ (i : ℕ). can_make_room (get_or cs i d).node.value p) same

either : (v w : Bool) → true ≡ v → true ≡ v || w
either true w h = refl
either false w h = cc

other : (v w x : Bool) → v ≡ false → w ≡ x → v || w ≡ x
other true w x h e = cc
other false w x h e = e

-- the child where the pair belongs can hand entries over
pub made_here : {A : Type 0} (t : Tree) (cs : List (Child A)) (k : ℕ) (p : Pair) → t ≡ parent cs → AreLabelled cs → IsAscending (entries t)
    → k ≡ place_of p cs - 1 → true ≡ can_hand_at k cs → true ≡ can_make_room t p
made_here t cs k p seen l a z h =
    let up : IsAscending (all_entries cs) = rw seen at a in
    either (can_hand_in (forest_of (trees cs)) p) (can_below (forest_of (trees cs)) p) (h ∙ sym (hands_by cs p k (place_of p cs) l up refl z))
    ∙ ap (λ x. can_make_room x p) (sym seen)

-- it can't, and what is below it decides
pub made_below : {A : Type 0} {t u : Tree} {cs : List (Child A)} {k : ℕ} {c : Child A} {p : Pair} → IsAt t u cs k c p → can_hand_at k cs ≡ false
    → can_make_room u p ≡ can_make_room t p
made_below {t = t} {u = u} {cs = cs} {k = k} {c = c} {p = p} a h =
    let child : (get_or cs k c).node.value ≡ u = ap (λ x. x.node.value) (sym a.child) ∙ sym a.tree in
    let here : can_hand_in (forest_of (trees cs)) p ≡ false = hands_by cs p k (place_of p cs) a.labelled a.ascending refl a.place ∙ h in
    let down : can_below (forest_of (trees cs)) p ≡ can_make_room u p = below_by cs p k (place_of p cs) c a.labelled a.ascending refl a.place a.in_range
    ∙ ap (λ x. can_make_room x p) child in
    sym (ap (λ x. can_make_room x p) a.seen ∙ other (can_hand_in (forest_of (trees cs)) p) (can_below (forest_of (trees cs)) p) (can_make_room u p) here down)
