-- The way of a pair goes on through the child where the pair belongs.
use Rattle.std.proofs.Common.{◌≡◌, ℕ, ◌+◌, ◌-◌, ◌<◌, Bool, true, false, not, cond, ◌==◌, ◌&&◌, List, [], ◌∷◌, ◌++◌, length, Option, Some, None, refl, ap, arith}
use Rattle.std.proofs.Common.{suc, zero, sym, ◌∙◌, ◌≤◌}
use Rattle.std.specs.List.{prefix_len, slice_get}
use Rattle.std.proofs.lemmas.Option.{slice_get_within}
use Rattle.record_values.specs.declared.pair.Pair.{Pair}
use Rattle.node_parts.specs.declared.Entry.{Entry}
use Rattle.node_parts.specs.Balance.{AreTrees, IsTree}
use Rattle.node_parts.specs.Order.{IsAscending, is_below, mark_in}
use Rattle.node_parts.specs.Place.{begins_after, place_in}
use Rattle.node_parts.specs.Rows.{branches}
use Rattle.node_parts.specs.Tree.{Forest, IsLeaf, Tree, branch, count, depth, entries, forest_depth, forest_entries, leaf, more, none, trees_of}
use Rattle.node_parts.proofs.Order.{AllAbove-from, AllAbove-right, AllBelow-upto, IsAscending-right, below_head, below_trans, mark_in-above, mark_in-below}
use Rattle.node_parts.proofs.Order.{mark_in-left, mark_in-right}
use Rattle.btree_node.specs.Path.{forest_path, path_of}
use Rattle.btree_node.specs.Splits.{forest_splits, is_before_all, splits}
use Rattle.btree_node.proofs.At.{not_empty, prefix_len-upto}
use Rattle.btree_node.proofs.Descending.{IsBelow, below}

-- the tree of a row on the way of a pair
abbrev chosen : Forest → Pair → Option Tree
chosen none p = None
chosen (more t f) p = cond (is_before_all p f) (Some t) (chosen f p)

path_chosen : (f : Forest) (p : Pair) (u : Tree) → chosen f p ≡ Some u → forest_path f p ≡ path_of u p
path_chosen none p u e = cc
path_chosen (more t f) p u e = pick (path_chosen f p u) (is_before_all p f) e
  where
    pick : (chosen f p ≡ Some u → forest_path f p ≡ path_of u p) → (b : Bool) → cond b (Some t) (chosen f p) ≡ Some u
        → cond b (path_of t p) (forest_path f p) ≡ path_of u p
    pick r true e = let same : t ≡ u = cc in ap (λ x. path_of x p) same
    pick r false e = r e

splits_chosen : (f : Forest) (p : Pair) (u : Tree) → chosen f p ≡ Some u → forest_splits f p ≡ splits u p
splits_chosen none p u e = cc
splits_chosen (more t f) p u e = pick (splits_chosen f p u) (is_before_all p f) e
  where
    pick : (chosen f p ≡ Some u → forest_splits f p ≡ splits u p) → (b : Bool) → cond b (Some t) (chosen f p) ≡ Some u
        → cond b (splits t p) (forest_splits f p) ≡ splits u p
    pick r true e = let same : t ≡ u = cc in ap (λ x. splits x p) same
    pick r false e = r e

-- what comes earlier doesn't begin after a pair, where what comes later doesn't
earlier : (es fs ys : List Entry) (p : Pair) → 0 < length fs → IsAscending (es ++ (fs ++ ys)) → begins_after fs p ≡ false → begins_after es p ≡ false
earlier [] fs ys p some a e = refl
earlier (x ∷ es) [] ys p some a e = absurd (omega arith)
earlier (x ∷ es) (y ∷ fs) ys p some a e = pick (is_below p x.pair) refl
  where
    pick : (b : Bool) → is_below p x.pair ≡ b → b ≡ false
    pick true h =
        let no : is_below p y.pair ≡ true = below_trans p x.pair y.pair h (AllAbove-right x.pair es (y ∷ (fs ++ ys)) a.0).0 in
        cc
    pick false h = refl

first : (t u : Tree) (ts : List Tree) (b : Bool) → slice_get (t ∷ ts) (cond b (1 + 0) 0 - 1) ≡ Some u → Some t ≡ Some u
first t u ts true e = e
first t u ts false e = e

later : (t u : Tree) (ts : List Tree) (n : ℕ) → 0 < n → slice_get (t ∷ ts) ((1 + n) - 1) ≡ Some u → slice_get ts (n - 1) ≡ Some u
later t u ts n some e =
    let one : (1 + n) - 1 ≡ suc (n - 1) = omega (arith, some) in
    rw one at e

abbrev comes : Pair → Tree → Bool
comes p t = not (begins_after (entries t) p)

chosen_at : (h : ℕ) (f : Forest) (p : Pair) (u : Tree) → AreTrees h f → IsAscending (forest_entries f)
    → slice_get (trees_of f) (prefix_len (comes p) (trees_of f) - 1) ≡ Some u → chosen f p ≡ Some u
chosen_at h none p u b a e = absurd (omega (arith, slice_get_within (trees_of none) (prefix_len (comes p) (trees_of none) - 1) u e))
chosen_at h (more t none) p u b a e = first t u [] (comes p t) e
chosen_at h (more t (more s g)) p u b a e =
    pick (chosen_at h (more s g) p u b.2 (IsAscending-right (entries t) (forest_entries (more s g)) a)) (begins_after (entries s) p) refl
  where
    pick : (slice_get (s ∷ trees_of g) (prefix_len (comes p) (s ∷ trees_of g) - 1) ≡ Some u → chosen (more s g) p ≡ Some u) → (v : Bool)
        → begins_after (entries s) p ≡ v → cond v (Some t) (chosen (more s g) p) ≡ Some u
    pick r true v =
        let none_comes : prefix_len (comes p) (s ∷ trees_of g) ≡ 0 = rw v refl in
        first t u (s ∷ trees_of g) (comes p t) (rw none_comes at e)
    pick r false v =
        let t_comes : begins_after (entries t) p ≡ false = earlier (entries t) (entries s) (forest_entries g) p (not_empty h s b.2.1 b.2.0) a v in
        let some : 0 < prefix_len (comes p) (s ∷ trees_of g) = rw v (omega arith) in
        r (later t u (s ∷ trees_of g) (prefix_len (comes p) (s ∷ trees_of g)) some (rw t_comes at e))

pub path_on : (t u : Tree) (p : Pair) → IsTree (depth t) t → IsAscending (entries t) → slice_get (branches t) (place_in t p) ≡ Some u
    → path_of t p ≡ place_in t p ∷ path_of u p
path_on (leaf es) u p b a e = absurd (omega (arith, slice_get_within (branches (leaf es)) (place_in (leaf es) p) u e))
path_on (branch f) u p b a e = ap (λ ks. place_in (branch f) p ∷ ks) (path_chosen f p u (chosen_at (depth (branch f) - 1) f p u b.2 a e))

pub splits_on : (t u : Tree) (p : Pair) → IsTree (depth t) t → IsAscending (entries t) → slice_get (branches t) (place_in t p) ≡ Some u
    → splits t p ≡ splits u p + cond ((splits u p == depth u) && (count t == 32)) 1 0
splits_on (leaf es) u p b a e = absurd (omega (arith, slice_get_within (branches (leaf es)) (place_in (leaf es) p) u e))
splits_on (branch f) u p b a e =
    let s : forest_splits f p ≡ splits u p = splits_chosen f p u (chosen_at (depth (branch f) - 1) f p u b.2 a e) in
    let l : IsBelow (branch f) u = below (branch f) u (place_in (branch f) p) b a e in
    let d : forest_depth f ≡ depth u = omega (arith, l.lower) in
    rw (s, d) refl

pub path_ends : (t : Tree) (p : Pair) → IsLeaf t → path_of t p ≡ place_in t p ∷ []
path_ends (leaf es) p l = refl
path_ends (branch f) p l = absurd l

pub splits_end : (t : Tree) (p : Pair) → IsLeaf t → splits t p ≡ cond (count t == 32) 1 0
splits_end (leaf es) p l = refl
splits_end (branch f) p l = absurd l

pub place_ends : (t : Tree) (p : Pair) → IsLeaf t → place_in t p ≡ prefix_len (λ e. is_below e.pair p) (entries t)
place_ends (leaf es) p l = refl
place_ends (branch f) p l = absurd l

-- ---- the mark
none_before : (es ys : List Entry) (p : Pair) → begins_after es p ≡ true → IsAscending (es ++ ys) → mark_in (es ++ ys) p ≡ None
none_before [] ys p b a = cc
none_before (e ∷ es) ys p b a = mark_in-above (e ∷ (es ++ ys)) p (b, AllAbove-from p e.pair (es ++ ys) b a.0)

none_after : (es fs ys : List Entry) (p : Pair) → 0 < length fs → IsAscending (es ++ (fs ++ ys)) → begins_after fs p ≡ false → mark_in es p ≡ None
none_after es [] ys p some a e = absurd (omega arith)
none_after es (y ∷ fs) ys p some a e = mark_in-below es p (AllBelow-upto es y.pair p (below_head es y (fs ++ ys) a) e)

mark_chosen : (h : ℕ) (f : Forest) (p : Pair) (u : Tree) → AreTrees h f → IsAscending (forest_entries f) → chosen f p ≡ Some u
    → mark_in (forest_entries f) p ≡ mark_in (entries u) p
mark_chosen h none p u b a e = cc
mark_chosen h (more t none) p u b a e =
    let same : t ≡ u = cc in
    mark_in-left (entries t) [] p refl ∙ ap (λ x. mark_in (entries x) p) same
mark_chosen h (more t (more s g)) p u b a e =
    pick (mark_chosen h (more s g) p u b.2 rest) (begins_after (entries s) p) refl e
  where
    rest : IsAscending (forest_entries (more s g))
    rest = IsAscending-right (entries t) (forest_entries (more s g)) a

    pick : (chosen (more s g) p ≡ Some u → mark_in (forest_entries (more s g)) p ≡ mark_in (entries u) p) → (v : Bool) → begins_after (entries s) p ≡ v
        → cond v (Some t) (chosen (more s g) p) ≡ Some u → mark_in (entries t ++ forest_entries (more s g)) p ≡ mark_in (entries u) p
    pick r true v k =
        let same : t ≡ u = cc in
        mark_in-left (entries t) (forest_entries (more s g)) p (none_before (entries s) (forest_entries g) p v rest) ∙ ap (λ x. mark_in (entries x) p) same
    pick r false v k =
        let without : mark_in (entries t) p ≡ None = none_after (entries t) (entries s) (forest_entries g) p (not_empty h s b.2.1 b.2.0) a v in
        mark_in-right (entries t) (forest_entries (more s g)) p without ∙ r k

-- the child where a pair belongs has its mark
pub mark_on : (t u : Tree) (p : Pair) → IsTree (depth t) t → IsAscending (entries t) → slice_get (branches t) (place_in t p) ≡ Some u
    → mark_in (entries u) p ≡ mark_in (entries t) p
mark_on (leaf es) u p b a e = absurd (omega (arith, slice_get_within (branches (leaf es)) (place_in (leaf es) p) u e))
mark_on (branch f) u p b a e =
    sym (mark_chosen (depth (branch f) - 1) f p u b.2 a (chosen_at (depth (branch f) - 1) f p u b.2 a e))

-- ---- where a way ends
past : (ts : List Tree) (k : ℕ) → slice_get ts k ≡ None → length ts ≤ k
past [] k e = omega arith
past (t ∷ ts) zero e = cc
past (t ∷ ts) (suc k) e = omega (arith, past ts k e)

-- a node with entries that has no child where a pair belongs is a leaf
pub leaf_on : (t : Tree) (p : Pair) → 0 < length (entries t) → slice_get (branches t) (place_in t p) ≡ None → IsLeaf t
leaf_on (leaf es) p s e = tt
leaf_on (branch none) p s e = absurd (omega (arith, s))
leaf_on (branch (more t f)) p s e =
    absurd (omega (arith, past (t ∷ trees_of f) (place_in (branch (more t f)) p) e, prefix_len-upto (comes p) (t ∷ trees_of f)))
