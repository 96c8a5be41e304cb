-- Lemmas on the children of an inner node.
use Rattle.std.proofs.Common.{◌≡◌, ℕ, ◌+◌, ◌<◌, ◌≤◌, Bool, true, false, not, cond, List, [], ◌∷◌, ◌++◌, map, length, get_or, Some, None, refl, sym, ap, subst}
use Rattle.std.proofs.Common.{◌∙◌, arith, zero, suc}
use Rattle.std.specs.List.{position_or_len}
use Rattle.record_values.specs.declared.pair.Pair.{Pair}
use Rattle.node_parts.specs.declared.Entry.{Entry}
use Rattle.node_parts.specs.declared.Child.{Child}
use Rattle.node_parts.specs.Order.{is_below, mark_in, AllAbove, IsAscending}
use Rattle.node_parts.specs.Tree.{Tree, branch, entries, forest_entries, forest_of, depth, forest_depth}
use Rattle.node_parts.specs.Seen.{least_of, AreLabelled, tree_of, IsSoundNode}
use Rattle.std.specs.Prelude.{Vec, vec_len, vec_capacity}
use Rattle.node_parts.specs.declared.NodeParts.{NodeParts}
use Rattle.node_parts.specs.declared.NodeParts.TheVariants.{Inner}
use Rattle.node_parts.proofs.Order.{mark_in-above, mark_in-below, mark_in-left, mark_in-right, AllAbove-from, AllBelow-upto, IsAscending-left}
use Rattle.node_parts.proofs.Order.{IsAscending-right, below_head}

-- the entries of all children
abbrev pub all_entries : {A : Type 0} → List (Child A) → List Entry
all_entries cs = forest_entries (forest_of (map (λ c. c.node.value) cs))

-- how many children begin at or below a pair
abbrev pub place_of : {A : Type 0} → Pair → List (Child A) → ℕ
place_of p cs = position_or_len (λ c. is_below p c.least) cs

pub starts : (es ys : List Entry) (p q : Pair) → least_of es ≡ Some q → is_below p q ≡ true → IsAscending (es ++ ys) → AllAbove p (es ++ ys)
starts [] ys p q e b h = cc
starts (x ∷ es) ys p q e b h =
    let same : x.pair ≡ q = cc in
    let b' : is_below p x.pair ≡ true = rw same b in
    (b', AllAbove-from p x.pair (es ++ ys) b' h.0)

ends : (xs es ys : List Entry) (p q : Pair) → least_of es ≡ Some q → is_below p q ≡ false → IsAscending (xs ++ (es ++ ys)) → mark_in xs p ≡ None
ends xs [] ys p q e b h = cc
ends xs (x ∷ es) ys p q e b h =
    let same : x.pair ≡ q = cc in
    let b' : is_below p x.pair ≡ false = rw same b in
    mark_in-below xs p (AllBelow-upto xs x.pair p (below_head xs x (es ++ ys) h) b')

pub zero_true : (b : Bool) (n : ℕ) → cond (not b) (1 + n) 0 ≡ 0 → b ≡ true
zero_true true n e = refl
zero_true false n e = absurd (omega arith)

pub one_zero : (b : Bool) (n k : ℕ) → cond (not b) (1 + n) 0 ≡ suc k → n ≡ k
one_zero true n k e = absurd (omega arith)
one_zero false n k e = omega arith

pub suc_false : (b : Bool) (n k : ℕ) → cond (not b) (1 + n) 0 ≡ suc k → b ≡ false
suc_false true n k e = absurd (omega arith)
suc_false false n k e = refl

-- before the first child there is nothing
pub mark_in-before : {A : Type 0} (cs : List (Child A)) (p : Pair) → AreLabelled cs → IsAscending (all_entries cs) → place_of p cs ≡ 0
    → mark_in (all_entries cs) p ≡ None
mark_in-before [] p l h e = refl
mark_in-before (c ∷ cs) p l h e =
    let b : is_below p c.least ≡ true = zero_true (is_below p c.least) (place_of p cs) e in
    mark_in-above _ p (starts (entries c.node.value) (all_entries cs) p c.least l.0 b h)

-- the child before the place has the pair's mark
pub mark_in-child : {A : Type 0} (cs : List (Child A)) (p : Pair) (k : ℕ) (d : Child A) → AreLabelled cs → IsAscending (all_entries cs) → place_of p cs ≡ suc k
    → mark_in (all_entries cs) p ≡ mark_in (entries (get_or cs k d).node.value) p
mark_in-child [] p k d l h e = cc
mark_in-child (c ∷ cs) p zero d l h e =
    let e' : place_of p cs ≡ 0 = one_zero (is_below p c.least) (place_of p cs) 0 e in
    mark_in-left (entries c.node.value) (all_entries cs) p (mark_in-before cs p l.1 (IsAscending-right (entries c.node.value) (all_entries cs) h) e')
mark_in-child (c ∷ []) p (suc k) d l h e = let e' : 0 ≡ suc k = one_zero (is_below p c.least) 0 (suc k) e in absurd (omega arith)
mark_in-child (c ∷ b ∷ cs) p (suc k) d l h e =
    let e' : place_of p (b ∷ cs) ≡ suc k = one_zero (is_below p c.least) (place_of p (b ∷ cs)) (suc k) e in
    let low : is_below p b.least ≡ false = suc_false (is_below p b.least) (place_of p cs) k e' in
    let none : mark_in (entries c.node.value) p ≡ None = ends (entries c.node.value) (entries b.node.value) (all_entries cs) p b.least l.1.0 low h in
    mark_in-right (entries c.node.value) (all_entries (b ∷ cs)) p none
    ∙ mark_in-child (b ∷ cs) p k d l.1 (IsAscending-right (entries c.node.value) (all_entries (b ∷ cs)) h) e'

pub depth_of_child : {A : Type 0} (cs : List (Child A)) (k : ℕ) (d : Child A) → k < length cs
    → depth (get_or cs k d).node.value ≤ forest_depth (forest_of (map (λ c. c.node.value) cs))
depth_of_child [] k d h = absurd (omega arith)
depth_of_child (c ∷ cs) zero d h = omega arith
depth_of_child (c ∷ cs) (suc k) d h = omega (arith, depth_of_child cs k d (omega arith))

pub ascending_child : {A : Type 0} (cs : List (Child A)) (k : ℕ) (d : Child A) → k < length cs → IsAscending (all_entries cs)
    → IsAscending (entries (get_or cs k d).node.value)
ascending_child [] k d h a = absurd (omega arith)
ascending_child (c ∷ cs) zero d h a = IsAscending-left (entries c.node.value) (all_entries cs) a
ascending_child (c ∷ cs) (suc k) d h a = ascending_child cs k d (omega arith) (IsAscending-right (entries c.node.value) (all_entries cs) a)

-- what an opened node was seen as
pub seen_inner : {A : Type 0} (parts : NodeParts A) (cs : Vec (Child A) A) (t : Tree) → tree_of parts ≡ t → parts ≡ Inner cs
    → t ≡ branch (forest_of (map (λ c. c.node.value) cs.items))
seen_inner parts cs t v e = sym v ∙ ap tree_of e

pub sound_inner : {A : Type 0} (parts : NodeParts A) (cs : Vec (Child A) A) → IsSoundNode parts → parts ≡ Inner cs → (vec_len cs ≤ 32) × (32 ≤ vec_capacity cs)
    × AreLabelled cs.items
sound_inner parts cs h e = subst IsSoundNode e h

-- what is known of the child at a place
pub child_lower : {A : Type 0} (cs : List (Child A)) (t u : Tree) (n : ℕ) (c : Child A) → t ≡ branch (forest_of (map (λ c. c.node.value) cs))
    → c ≡ get_or cs n c → u ≡ c.node.value → n < length cs → depth u < depth t
child_lower cs t u n c e k d h = rw (e, d, k) (omega (arith, depth_of_child cs n c h))

pub child_ascending : {A : Type 0} (cs : List (Child A)) (t u : Tree) (n : ℕ) (c : Child A) → t ≡ branch (forest_of (map (λ c. c.node.value) cs))
    → c ≡ get_or cs n c → u ≡ c.node.value → n < length cs → IsAscending (entries t) → IsAscending (entries u)
child_ascending cs t u n c e k d h a = rw (d, k) (ascending_child cs n c h (rw e at a))

pub child_marks : {A : Type 0} (cs : List (Child A)) (t u : Tree) (n : ℕ) (c : Child A) (p : Pair) → t ≡ branch (forest_of (map (λ c. c.node.value) cs))
    → c ≡ get_or cs n c → u ≡ c.node.value → AreLabelled cs → IsAscending (entries t) → place_of p cs ≡ suc n → mark_in (entries t) p ≡ mark_in (entries u) p
child_marks cs t u n c p e k d l a z = rw (e, d, k) (mark_in-child cs p n c l (rw e at a) z)
