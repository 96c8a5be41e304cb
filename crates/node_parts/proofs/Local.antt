-- A change at a pair touches one child alone.
use Rattle.std.proofs.Common.{◌≡◌, ℕ, ◌<◌, Bool, true, false, cond, List, [], ◌∷◌, ◌++◌, length, take, drop, get_or, Some, refl, sym, arith, zero, suc}
use Rattle.std.proofs.Common.{append_assoc}
use Rattle.std.proofs.Math.ListN.{set}
use Rattle.std.specs.Ordering.{is_eq}
use Rattle.record_values.specs.declared.pair.Pair.{Pair}
use Rattle.record_values.specs.declared.pair.Mark.{Mark}
use Rattle.node_parts.specs.declared.Entry.{Entry}
use Rattle.node_parts.specs.declared.Child.{Child}
use Rattle.node_parts.specs.Order.{order, is_below, with_mark, AllAbove, IsAscending}
use Rattle.node_parts.specs.Tree.{entries}
use Rattle.node_parts.specs.Seen.{least_of, AreLabelled}
use Rattle.node_parts.proofs.Order.{AllBelow, below-differs, above-differs, AllBelow-upto, IsAscending-right, below_head}
use Rattle.node_parts.proofs.Children.{all_entries, place_of, starts, zero_true, one_zero, suc_false}

-- ---- the entries around a child
pub entries-around : {A : Type 0} (cs : List (Child A)) (k : ℕ) (d : Child A) → k < length cs
    → all_entries cs ≡ all_entries (take k cs) ++ (entries (get_or cs k d).node.value ++ all_entries (drop (suc k) cs))
entries-around [] k d h = absurd (omega arith)
entries-around (c ∷ cs) zero d h = refl
entries-around (c ∷ cs) (suc k) d h = rw (entries-around cs k d (omega arith))
    (sym (append_assoc (entries c.node.value) (all_entries (take k cs)) (entries (get_or cs k d).node.value ++ all_entries (drop (suc k) cs))))

pub entries-set : {A : Type 0} (cs : List (Child A)) (k : ℕ) (b : Child A) → k < length cs
    → all_entries (set cs k b) ≡ all_entries (take k cs) ++ (entries b.node.value ++ all_entries (drop (suc k) cs))
entries-set [] k b h = absurd (omega arith)
entries-set (c ∷ cs) zero b h = refl
entries-set (c ∷ cs) (suc k) b h = rw (entries-set cs k b (omega arith))
    (sym (append_assoc (entries c.node.value) (all_entries (take k cs)) (entries b.node.value ++ all_entries (drop (suc k) cs))))

AllBelow-append : (xs ys : List Entry) (p : Pair) → AllBelow xs p → AllBelow ys p → AllBelow (xs ++ ys) p
AllBelow-append [] ys p h k = k
AllBelow-append (x ∷ xs) ys p h k = (h.0, AllBelow-append xs ys p h.1 k)

ends_below : (xs es ys : List Entry) (p q : Pair) → least_of es ≡ Some q → is_below p q ≡ false → IsAscending (xs ++ (es ++ ys)) → AllBelow xs p
ends_below xs [] ys p q e b h = cc
ends_below xs (x ∷ es) ys p q e b h =
    let same : x.pair ≡ q = cc in
    let b' : is_below p x.pair ≡ false = rw same b in
    AllBelow-upto xs x.pair p (below_head xs x (es ++ ys) h) b'

pub below_left : {A : Type 0} (cs : List (Child A)) (p : Pair) (k : ℕ) → AreLabelled cs → IsAscending (all_entries cs) → place_of p cs ≡ suc k
    → AllBelow (all_entries (take k cs)) p
below_left [] p k l h e = cc
below_left (c ∷ cs) p zero l h e = tt
below_left (c ∷ []) p (suc k) l h e = let e' : 0 ≡ suc k = one_zero (is_below p c.least) 0 (suc k) e in absurd (omega arith)
below_left (c ∷ b ∷ cs) p (suc k) l h e =
    let e' : place_of p (b ∷ cs) ≡ suc k = one_zero (is_below p c.least) (place_of p (b ∷ cs)) (suc k) e in
    let low : is_below p b.least ≡ false = suc_false (is_below p b.least) (place_of p cs) k e' in
    AllBelow-append (entries c.node.value) (all_entries (take k (b ∷ cs))) p
    (ends_below (entries c.node.value) (entries b.node.value) (all_entries cs) p b.least l.1.0 low h)
    (below_left (b ∷ cs) p k l.1 (IsAscending-right (entries c.node.value) (all_entries (b ∷ cs)) h) e')

pub above_all : {A : Type 0} (cs : List (Child A)) (p : Pair) → AreLabelled cs → IsAscending (all_entries cs) → place_of p cs ≡ 0 → AllAbove p (all_entries cs)
above_all [] p l h e = tt
above_all (c ∷ cs) p l h e =
    let b : is_below p c.least ≡ true = zero_true (is_below p c.least) (place_of p cs) e in
    starts (entries c.node.value) (all_entries cs) p c.least l.0 b h

pub above_right : {A : Type 0} (cs : List (Child A)) (p : Pair) (k : ℕ) → AreLabelled cs → IsAscending (all_entries cs) → place_of p cs ≡ suc k
    → AllAbove p (all_entries (drop (suc k) cs))
above_right [] p k l h e = cc
above_right (c ∷ cs) p zero l h e =
    above_all cs p l.1 (IsAscending-right (entries c.node.value) (all_entries cs) h) (one_zero (is_below p c.least) (place_of p cs) 0 e)
above_right (c ∷ cs) p (suc k) l h e =
    above_right cs p k l.1 (IsAscending-right (entries c.node.value) (all_entries cs) h) (one_zero (is_below p c.least) (place_of p cs) (suc k) e)

-- ---- another mark
pub with_mark-above : (es : List Entry) (p : Pair) (m : Mark) → AllAbove p es → with_mark es p m ≡ es
with_mark-above [] p m h = refl
with_mark-above (e ∷ es) p m h = rw (above-differs p e.pair h.0, with_mark-above es p m h.1)

pub with_mark-left : (xs ys : List Entry) (p : Pair) (m : Mark) → AllAbove p ys → with_mark (xs ++ ys) p m ≡ with_mark xs p m ++ ys
with_mark-left [] ys p m h = with_mark-above ys p m h
with_mark-left (x ∷ xs) ys p m h = rw (with_mark-left xs ys p m h)

pub with_mark-right : (xs ys : List Entry) (p : Pair) (m : Mark) → AllBelow xs p → with_mark (xs ++ ys) p m ≡ xs ++ with_mark ys p m
with_mark-right [] ys p m h = refl
with_mark-right (x ∷ xs) ys p m h = rw (below-differs x.pair p h.0, with_mark-right xs ys p m h.1)

least_of-cons : (b : Bool) (e : Entry) (m : Mark) (es : List Entry) → least_of (cond b (record { pair = e.pair; mark = m }) e ∷ es) ≡ Some e.pair
least_of-cons true e m es = refl
least_of-cons false e m es = refl

pub least_of-with_mark : (es : List Entry) (p : Pair) (m : Mark) → least_of (with_mark es p m) ≡ least_of es
least_of-with_mark [] p m = refl
least_of-with_mark (e ∷ es) p m = least_of-cons (is_eq (order e.pair p)) e m (with_mark es p m)

-- ---- one child replaced
pub AreLabelled-set : {A : Type 0} (cs : List (Child A)) (k : ℕ) (b : Child A) → AreLabelled cs → least_of (entries b.node.value) ≡ Some b.least
    → AreLabelled (set cs k b)
AreLabelled-set [] k b l h = tt
AreLabelled-set (c ∷ cs) zero b l h = (h, l.1)
AreLabelled-set (c ∷ cs) (suc k) b l h = (l.0, AreLabelled-set cs k b l.1 h)

pub label_at : {A : Type 0} (cs : List (Child A)) (k : ℕ) (d : Child A) → k < length cs → AreLabelled cs
    → least_of (entries (get_or cs k d).node.value) ≡ Some (get_or cs k d).least
label_at [] k d h l = absurd (omega arith)
label_at (c ∷ cs) zero d h l = l.0
label_at (c ∷ cs) (suc k) d h l = label_at cs k d (omega arith) l.1

-- ---- two rows of children joined
pub entries-append : {A : Type 0} (cs ds : List (Child A)) → all_entries (cs ++ ds) ≡ all_entries cs ++ all_entries ds
entries-append [] ds = refl
entries-append (c ∷ cs) ds = rw (entries-append cs ds) (sym (append_assoc (entries c.node.value) (all_entries cs) (all_entries ds)))

pub AreLabelled-append : {A : Type 0} (cs ds : List (Child A)) → AreLabelled cs → AreLabelled ds → AreLabelled (cs ++ ds)
AreLabelled-append [] ds l m = m
AreLabelled-append (c ∷ cs) ds l m = (l.0, AreLabelled-append cs ds l.1 m)
