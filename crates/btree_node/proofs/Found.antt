-- What stands in a leaf at the place of a pair.
use Rattle.std.proofs.Common.{◌≡◌, ℕ, ◌+◌, ◌<◌, ◌≤◌, Bool, true, false, not, cond, List, [], ◌∷◌, length, get_or, Option, Some, None, refl, sym, ap, ◌∙◌, arith}
use Rattle.std.proofs.Common.{suc, Bor}
use Rattle.std.specs.Prelude.{IsSome}
use Rattle.std.specs.Bool.{then_some}
use Rattle.std.specs.Option.{option_copied}
use Rattle.std.specs.Slice.{IsItemAt}
use Rattle.std.specs.List.{prefix_len}
use Rattle.std.specs.Ordering.{is_eq}
use Rattle.std.proofs.Math.ListN.{set}
use Rattle.record_values.specs.declared.pair.Pair.{Pair}
use Rattle.record_values.specs.declared.pair.Mark.{Mark}
use Rattle.node_parts.specs.declared.Entry.{Entry}
use Rattle.node_parts.specs.Order.{order, is_below, mark_in, with_mark, AllAbove, IsAscending}
use Rattle.node_parts.proofs.Order.{below-differs, mark_in-above, AllAbove-from}
use Rattle.node_parts.proofs.Local.{with_mark-above}
use Rattle.btree_node.specs.Above.{first_above}
use Rattle.btree_node.proofs.Ascending.{other_below}
use Rattle.btree_node.proofs.Remove.{tied_above, equal_of}

-- the place of a pair among entries
abbrev pub place_of : List Entry → Pair → ℕ
place_of es p = prefix_len (λ e. is_below e.pair p) es

-- ---- the mark
pub absent : (es : List Entry) (p : Pair) → length es ≤ place_of es p → mark_in es p ≡ None
absent [] p h = refl
absent (x ∷ xs) p h = pick (absent xs p) (is_below x.pair p) refl h
  where
    pick : (length xs ≤ place_of xs p → mark_in xs p ≡ None) → (b : Bool) → is_below x.pair p ≡ b → length (x ∷ xs) ≤ cond b (1 + place_of xs p) 0
        → mark_in (x ∷ xs) p ≡ None
    pick r true b k = rw (below-differs x.pair p b) (r (omega arith))
    pick r false b k = absurd (omega arith)

tail_mark : (x : Entry) (xs : List Entry) (p : Pair) → AllAbove x.pair xs → is_below x.pair p ≡ false
    → mark_in (x ∷ xs) p ≡ then_some (is_eq (order x.pair p)) x.mark
tail_mark x xs p a b = pick (is_eq (order x.pair p)) refl
  where
    pick : (v : Bool) → is_eq (order x.pair p) ≡ v → cond v (Some x.mark) (mark_in xs p) ≡ then_some v x.mark
    pick true e = refl
    pick false e = mark_in-above xs p (AllAbove-from p x.pair xs (other_below x.pair p b e) a)

pub found : (es : List Entry) (p : Pair) (e : Entry) → IsAscending es → place_of es p < length es → ((d : Entry) → e ≡ get_or es (place_of es p) d)
    → mark_in es p ≡ then_some (is_eq (order e.pair p)) e.mark
found [] p e a l h = absurd (omega arith)
found (x ∷ xs) p e a l h = pick (found xs p e a.1) (is_below x.pair p) refl l h
  where
    pick : (place_of xs p < length xs → ((d : Entry) → e ≡ get_or xs (place_of xs p) d) → mark_in xs p ≡ then_some (is_eq (order e.pair p)) e.mark) → (b : Bool)
        → is_below x.pair p ≡ b → cond b (1 + place_of xs p) 0 < length (x ∷ xs) → ((d : Entry) → e ≡ get_or (x ∷ xs) (cond b (1 + place_of xs p) 0) d)
        → mark_in (x ∷ xs) p ≡ then_some (is_eq (order e.pair p)) e.mark
    pick r true b k g =
        let one : 1 + place_of xs p ≡ suc (place_of xs p) = omega arith in
        let g' : (d : Entry) → e ≡ get_or xs (place_of xs p) d = rw one at g in
        rw (below-differs x.pair p b) (r (omega arith) g')
    pick r false b k g = let s : e ≡ x = g x in rw s (tail_mark x xs p a.0 b)

-- ---- another mark
pub marked : (es : List Entry) (p : Pair) (m : Mark) (e : Entry) → IsAscending es → IsSome (mark_in es p) → e ≡ get_or es (place_of es p) e
    → set es (place_of es p) (record { pair = e.pair; mark = m }) ≡ with_mark es p m
marked [] p m e a s h = refl
marked (x ∷ xs) p m e a s h = pick (marked xs p m e a.1) (is_below x.pair p) refl h
  where
    no_mark : {X : Type 0} (o : Option Mark) → o ≡ None → IsSome o → X
    no_mark None e h = cc
    no_mark (Some m) e h = cc

    here : is_below x.pair p ≡ false → (v : Bool) → is_eq (order x.pair p) ≡ v
        → record { pair = x.pair; mark = m } ∷ xs ≡ cond v (record { pair = x.pair; mark = m }) x ∷ with_mark xs p m
    here b true f = ap (λ w. record { pair = x.pair; mark = m } ∷ w) (sym (with_mark-above xs p m (tied_above x.pair p xs (equal_of (order x.pair p) f) a.0)))
    here b false f = no_mark (mark_in (x ∷ xs) p) (tail_mark x xs p a.0 b ∙ ap (λ v. then_some v x.mark) f) s

    pick : (IsSome (mark_in xs p) → e ≡ get_or xs (place_of xs p) e → set xs (place_of xs p) (record { pair = e.pair; mark = m }) ≡ with_mark xs p m)
        → (b : Bool) → is_below x.pair p ≡ b → e ≡ get_or (x ∷ xs) (cond b (1 + place_of xs p) 0) e
        → set (x ∷ xs) (cond b (1 + place_of xs p) 0) (record { pair = e.pair; mark = m }) ≡ with_mark (x ∷ xs) p m
    pick r true b g =
        let one : 1 + place_of xs p ≡ suc (place_of xs p) = omega arith in
        let g' : e ≡ get_or xs (place_of xs p) e = rw one at g in
        let s' : IsSome (mark_in xs p) = rw (below-differs x.pair p b) at s in
        rw (below-differs x.pair p b, one) (ap (λ w. x ∷ w) (r s' g'))
    pick r false b g = rw g (here b (is_eq (order x.pair p)) refl)

-- ---- the first entry after a pair
abbrev pub place_after : List Entry → Pair → ℕ
place_after es p = prefix_len (λ e. not (is_below p e.pair)) es

none_at : (es : List Entry) (p : Pair) → length es ≤ place_after es p → first_above es p ≡ None
none_at [] p h = refl
none_at (x ∷ xs) p h = pick (none_at xs p) (is_below p x.pair) h
  where
    pick : (length xs ≤ place_after xs p → first_above xs p ≡ None) → (b : Bool) → length (x ∷ xs) ≤ cond (not b) (1 + place_after xs p) 0
        → cond b (Some x) (first_above xs p) ≡ None
    pick r true k = absurd (omega arith)
    pick r false k = r (omega arith)

some_at : (es : List Entry) (p : Pair) (e : Entry) → place_after es p < length es → ((d : Entry) → e ≡ get_or es (place_after es p) d)
    → first_above es p ≡ Some e
some_at [] p e l h = absurd (omega arith)
some_at (x ∷ xs) p e l h = pick (some_at xs p e) (is_below p x.pair) l h
  where
    pick : (place_after xs p < length xs → ((d : Entry) → e ≡ get_or xs (place_after xs p) d) → first_above xs p ≡ Some e) → (b : Bool)
        → cond (not b) (1 + place_after xs p) 0 < length (x ∷ xs) → ((d : Entry) → e ≡ get_or (x ∷ xs) (cond (not b) (1 + place_after xs p) 0) d)
        → cond b (Some x) (first_above xs p) ≡ Some e
    pick r true k g = ap Some (sym (g x))
    pick r false k g =
        let one : 1 + place_after xs p ≡ suc (place_after xs p) = omega arith in
        let g' : (d : Entry) → e ≡ get_or xs (place_after xs p) d = rw one at g in
        r (omega arith) g'

pub first-at : (es : List Entry) (p : Pair) (r : Option (Bor Entry)) → IsItemAt es (place_after es p) r → option_copied r ≡ first_above es p
first-at es p None h = sym (none_at es p h.3)
first-at es p (Some x) h = sym (some_at es p x.now h.3.0 h.3.1)
