-- Where a halving search ends.
use Rattle.std.proofs.Common.{◌≡◌, ℕ, ◌-◌, ◌<◌, ◌≤◌, Bool, true, false, not, List, [], ◌∷◌, ◌++◌, length, get_or, Some, refl, sym, ap, subst, ◌∙◌, arith, zero}
use Rattle.std.proofs.Common.{suc}
use Rattle.std.specs.List.{position_or_len, prefix_len}
use Rattle.std.specs.List.Sorted.{IsPartitionPoint, IsPartitionedBy}
use Rattle.record_values.specs.declared.pair.Pair.{Pair}
use Rattle.node_parts.specs.declared.Entry.{Entry}
use Rattle.node_parts.specs.declared.Child.{Child}
use Rattle.node_parts.specs.Order.{is_below, AllAbove, IsAscending}
use Rattle.node_parts.specs.Tree.{Tree, branch, entries, forest_of, trees_of-forest_of}
use Rattle.node_parts.specs.Seen.{least_of, AreLabelled}
use Rattle.node_parts.specs.Place.{begins_after, place_in}
use Rattle.node_parts.specs.Rows.{trees, row_entries}
use Rattle.node_parts.proofs.Order.{below_trans, AllAbove-right, IsAscending-right}

-- the place between what passes and what does not is how many pass from the front on
pub prefix_len-partition : {X : Type 0} (p : X → Bool) (xs : List X) (n : ℕ) → n ≤ length xs → IsPartitionPoint (λ x. p x ≡ true) (λ x. p x ≡ false) xs n
    → n ≡ prefix_len p xs
prefix_len-partition p [] n h k = omega arith
prefix_len-partition p (x ∷ xs) zero h k =
    let fails : p x ≡ false = k.1 0 x (omega arith) (omega arith) in
    rw fails refl
prefix_len-partition p (x ∷ xs) (suc n) h k =
    let passes : p x ≡ true = k.0 0 x (omega arith) (omega arith) in
    let rest : n ≡ prefix_len p xs = prefix_len-partition p xs n (omega arith) (
      (λ i d l m. k.0 (suc i) d (omega arith) (omega arith)),
      (λ i d l m. k.1 (suc i) d (omega arith) (omega arith)),
    ) in
    rw passes (omega (arith, rest))

-- where the last one passes, each does
pub prefix_len-all : {X : Type 0} (p : X → Bool) (xs : List X) (last : X) → IsPartitionedBy p xs → 0 < length xs
    → ((d : X) → last ≡ get_or xs (length xs - 1) d) → p last ≡ true → length xs ≡ prefix_len p xs
prefix_len-all p xs last parted some at passes =
    prefix_len-partition p xs (length xs) (omega arith)
    ((λ i d l m. parted i (length xs - 1) d (omega arith) (omega (arith, some)) (ap p (sym (at d)) ∙ passes)), (λ i d l m. absurd (omega arith)))

above_at : (q : Pair) (xs : List Entry) (k : ℕ) (d : Entry) → AllAbove q xs → k < length xs → is_below q (get_or xs k d).pair ≡ true
above_at q [] k d a l = absurd (omega arith)
above_at q (x ∷ xs) zero d a l = a.0
above_at q (x ∷ xs) (suc k) d a l = above_at q xs k d a.1 (omega arith)

-- ascending entries are cut in two by a pair: those that come before it, and the others
pub partitioned-entries : (p : Pair) (es : List Entry) → IsAscending es → IsPartitionedBy (λ e. is_below e.pair p) es
partitioned-entries p [] a i j d l m h = absurd (omega arith)
partitioned-entries p (e ∷ es) a zero zero d l m h = h
partitioned-entries p (e ∷ es) a zero (suc j) d l m h = below_trans e.pair (get_or es j d).pair p (above_at e.pair es j d a.0 (omega arith)) h
partitioned-entries p (e ∷ es) a (suc i) zero d l m h = absurd (omega arith)
partitioned-entries p (e ∷ es) a (suc i) (suc j) d l m h = partitioned-entries p es a.1 i j d (omega arith) (omega arith) h

head_label : (es fs ys : List Entry) (p q : Pair) → least_of es ≡ Some p → least_of fs ≡ Some q → IsAscending (es ++ (fs ++ ys)) → is_below p q ≡ true
head_label [] fs ys p q e f a = cc
head_label (x ∷ es) [] ys p q e f a = cc
head_label (x ∷ es) (y ∷ fs) ys p q e f a =
    let left : x.pair ≡ p = cc in
    let right : y.pair ≡ q = cc in
    let below : is_below x.pair y.pair ≡ true = (AllAbove-right x.pair es (y ∷ (fs ++ ys)) a.0).0 in
    subst (λ r. is_below r q ≡ true) left (subst (λ r. is_below x.pair r ≡ true) right below)

-- each label comes after p
abbrev AllLabelsAbove : {A : Type 0} → Pair → List (Child A) → Type 0
AllLabelsAbove p [] = Unit {0}
AllLabelsAbove p (c ∷ cs) = (is_below p c.least ≡ true) × AllLabelsAbove p cs

labels_from : {A : Type 0} (p q : Pair) (cs : List (Child A)) → is_below p q ≡ true → AllLabelsAbove q cs → AllLabelsAbove p cs
labels_from p q [] b h = tt
labels_from p q (c ∷ cs) b h = (below_trans p q c.least b h.0, labels_from p q cs b h.1)

abbrev LabelsAscend : {A : Type 0} → List (Child A) → Type 0
LabelsAscend [] = Unit {0}
LabelsAscend (c ∷ cs) = AllLabelsAbove c.least cs × LabelsAscend cs

labels_ascend : {A : Type 0} (cs : List (Child A)) → AreLabelled cs → IsAscending (row_entries cs) → LabelsAscend cs
labels_ascend [] l a = tt
labels_ascend (c ∷ []) l a = (tt, tt)
labels_ascend (c ∷ d ∷ cs) l a =
    let rest : LabelsAscend (d ∷ cs) = labels_ascend (d ∷ cs) l.1 (IsAscending-right (entries c.node.value) (row_entries (d ∷ cs)) a) in
    let below : is_below c.least d.least ≡ true = head_label (entries c.node.value) (entries d.node.value) (row_entries cs) c.least d.least l.0 l.1.0 a in
    ((below, labels_from c.least d.least cs below rest.0), rest)

label_at : {A : Type 0} (q : Pair) (cs : List (Child A)) (k : ℕ) (d : Child A) → AllLabelsAbove q cs → k < length cs → is_below q (get_or cs k d).least ≡ true
label_at q [] k d h l = absurd (omega arith)
label_at q (c ∷ cs) zero d h l = h.0
label_at q (c ∷ cs) (suc k) d h l = label_at q cs k d h.1 (omega arith)

not_true : (b : Bool) → not b ≡ true → b ≡ false
not_true true h = cc
not_true false h = refl

upto : (p q r : Pair) → is_below q r ≡ true → is_below p r ≡ false → (b : Bool) → is_below p q ≡ b → not b ≡ true
upto p q r h k true e = let x : is_below p r ≡ true = below_trans p q r e h in cc
upto p q r h k false e = refl

ascending-partitioned : {A : Type 0} (p : Pair) (cs : List (Child A)) → LabelsAscend cs → IsPartitionedBy (λ c. not (is_below p c.least)) cs
ascending-partitioned p [] a i j d l m h = absurd (omega arith)
ascending-partitioned p (c ∷ cs) a zero zero d l m h = h
ascending-partitioned p (c ∷ cs) a zero (suc j) d l m h =
    upto p c.least (get_or cs j d).least (label_at c.least cs j d a.0 (omega arith)) (not_true (is_below p (get_or cs j d).least) h) (is_below p c.least) refl
ascending-partitioned p (c ∷ cs) a (suc i) zero d l m h = absurd (omega arith)
ascending-partitioned p (c ∷ cs) a (suc i) (suc j) d l m h = ascending-partitioned p cs a.1 i j d (omega arith) (omega arith) h

pub partitioned-children : {A : Type 0} (p : Pair) (cs : List (Child A)) → AreLabelled cs → IsAscending (row_entries cs)
    → IsPartitionedBy (λ c. not (is_below p c.least)) cs
partitioned-children p cs l a = ascending-partitioned p cs (labels_ascend cs l a)

begins : {A : Type 0} (c : Child A) (p : Pair) → least_of (entries c.node.value) ≡ Some c.least → begins_after (entries c.node.value) p ≡ is_below p c.least
begins c p l = of_entries (entries c.node.value) l
  where
    of_entries : (es : List Entry) → least_of es ≡ Some c.least → begins_after es p ≡ is_below p c.least
    of_entries [] l = cc
    of_entries (e ∷ es) l = let same : e.pair ≡ c.least = cc in rw same

-- labels serve for the entries below them
pub place-labels : {A : Type 0} (p : Pair) (cs : List (Child A)) → AreLabelled cs
    → prefix_len (λ t. not (begins_after (entries t) p)) (trees cs) ≡ position_or_len (λ c. is_below p c.least) cs
place-labels p [] l = refl
place-labels p (c ∷ cs) l = rw (begins c p l.0, place-labels p cs l.1) refl

-- and so are they by whether they come after it
pub partitioned-after : (p : Pair) (es : List Entry) → IsAscending es → IsPartitionedBy (λ e. not (is_below p e.pair)) es
partitioned-after p [] a i j d l m h = absurd (omega arith)
partitioned-after p (e ∷ es) a zero zero d l m h = h
partitioned-after p (e ∷ es) a zero (suc j) d l m h =
    upto p e.pair (get_or es j d).pair (above_at e.pair es j d a.0 (omega arith)) (not_true (is_below p (get_or es j d).pair) h) (is_below p e.pair) refl
partitioned-after p (e ∷ es) a (suc i) zero d l m h = absurd (omega arith)
partitioned-after p (e ∷ es) a (suc i) (suc j) d l m h = partitioned-after p es a.1 i j d (omega arith) (omega arith) h

-- the place of a pair in an inner node with these children
pub place_in-row : {A : Type 0} (p : Pair) (cs : List (Child A)) (t : Tree) → t ≡ branch (forest_of (trees cs)) → AreLabelled cs
    → place_in t p ≡ position_or_len (λ c. is_below p c.least) cs - 1
place_in-row p cs t e l = ap (λ u. place_in u p) e ∙ ap (λ ts. prefix_len (λ u. not (begins_after (entries u) p)) ts - 1) (trees_of-forest_of (trees cs))
    ∙ ap (λ (n : ℕ). n - 1) (place-labels p cs l)
