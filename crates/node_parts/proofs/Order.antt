-- Lemmas on ascending entries.
use Rattle.std.proofs.Common.{◌≡◌, ℕ, ◌+◌, Bool, true, false, cond, List, [], ◌∷◌, ◌++◌, Option, Some, None, refl, sym, ap, ◌∙◌, arith, suc}
use Rattle.std.specs.Ordering.{is_lt, is_eq, ordering_reverse}
use Rattle.std.specs.declared.cmp.Ordering.{Ordering}
use Rattle.std.specs.declared.cmp.Ordering.TheVariants.{Less, Equal, Greater}
use Rattle.std.specs.Cmp.{IsTotalOrder}
use Rattle.std.proofs.lemmas.Cmp.{tied_back}
use Rattle.record_values.specs.Orders.{pair_cmp_total, pair_cmp-IsAntisymmetric}
use Rattle.record_values.specs.declared.pair.Pair.{Pair}
use Rattle.record_values.specs.declared.pair.Mark.{Mark}
use Rattle.node_parts.specs.declared.Entry.{Entry}
use Rattle.node_parts.specs.Order.{order, is_below, mark_in, insert_entry, AllAbove, IsAscending}
use Rattle.std.specs.List.{insert, prefix_len}

pub pairs_total : IsTotalOrder order
unfolding order
pairs_total = pair_cmp_total

-- only equal pairs tie
pub same_pair : (a b : Pair) → order a b ≡ Equal → a ≡ b
unfolding order
same_pair = pair_cmp-IsAntisymmetric

pub less_of : (o : Ordering) → is_lt o ≡ true → o ≡ Less
less_of Less e = refl
less_of Equal e = cc
less_of Greater e = cc

pub below_trans : (a b c : Pair) → is_below a b ≡ true → is_below b c ≡ true → is_below a c ≡ true
below_trans a b c h k = ap is_lt (pairs_total.trans a b c (less_of _ h) (less_of _ k))

lt_is_not_eq : (o : Ordering) → is_lt o ≡ true → is_eq o ≡ false
lt_is_not_eq Less e = refl
lt_is_not_eq Equal e = cc
lt_is_not_eq Greater e = refl

pub reverse_eq : (o : Ordering) → is_eq (ordering_reverse o) ≡ is_eq o
reverse_eq Less = refl
reverse_eq Equal = refl
reverse_eq Greater = refl

pub below-differs : (a b : Pair) → is_below a b ≡ true → is_eq (order a b) ≡ false
below-differs a b h = lt_is_not_eq _ h

pub above-differs : (a b : Pair) → is_below a b ≡ true → is_eq (order b a) ≡ false
above-differs a b h = ap is_eq (pairs_total.antisymm b a) ∙ reverse_eq (order a b) ∙ lt_is_not_eq _ h

below_upto_at : (a b c : Pair) (o : Ordering) → order c b ≡ o → is_below a b ≡ true → is_lt o ≡ false → is_below a c ≡ true
below_upto_at a b c Less e h k = cc
below_upto_at a b c Equal e h k =
    let back : order b c ≡ Equal = tied_back pairs_total c b e in
    let same : order b a ≡ order c a = pairs_total.congr b c a back in
    let left : order a b ≡ ordering_reverse (order b a) = pairs_total.antisymm a b in
    let right : order a c ≡ ordering_reverse (order c a) = pairs_total.antisymm a c in
    ap is_lt (right ∙ ap ordering_reverse (sym same) ∙ sym left) ∙ h
below_upto_at a b c Greater e h k =
    let less : order b c ≡ Less = pairs_total.antisymm b c ∙ ap ordering_reverse e in
    below_trans a b c h (ap is_lt less)

-- a < b and b ≤ c give a < c
pub below_upto : (a b c : Pair) → is_below a b ≡ true → is_below c b ≡ false → is_below a c ≡ true
below_upto a b c h k = below_upto_at a b c (order c b) refl h k

-- each entry comes before p
abbrev pub AllBelow : List Entry → Pair → Type 0
AllBelow [] p = Unit {0}
AllBelow (e ∷ es) p = (is_below e.pair p ≡ true) × AllBelow es p

pub mark_in-above : (es : List Entry) (p : Pair) → AllAbove p es → mark_in es p ≡ None
mark_in-above [] p h = refl
mark_in-above (e ∷ es) p h = rw (above-differs p e.pair h.0) (mark_in-above es p h.1)

pub mark_in-below : (es : List Entry) (p : Pair) → AllBelow es p → mark_in es p ≡ None
mark_in-below [] p h = refl
mark_in-below (e ∷ es) p h = rw (below-differs e.pair p h.0) (mark_in-below es p h.1)

pub mark_in-left : (xs ys : List Entry) (p : Pair) → mark_in ys p ≡ None → mark_in (xs ++ ys) p ≡ mark_in xs p
mark_in-left [] ys p h = h
mark_in-left (x ∷ xs) ys p h = rw (mark_in-left xs ys p h)

elim_test : (b : Bool) (m : Mark) (r s t : Option Mark) → cond b (Some m) r ≡ None → (r ≡ None → s ≡ t) → cond b (Some m) s ≡ t
elim_test true m r s t h k = cc
elim_test false m r s t h k = k h

pub mark_in-right : (xs ys : List Entry) (p : Pair) → mark_in xs p ≡ None → mark_in (xs ++ ys) p ≡ mark_in ys p
mark_in-right [] ys p h = refl
mark_in-right (x ∷ xs) ys p h = elim_test (is_eq (order x.pair p)) x.mark (mark_in xs p) (mark_in (xs ++ ys) p) (mark_in ys p) h (mark_in-right xs ys p)

pub AllAbove-left : (p : Pair) (xs ys : List Entry) → AllAbove p (xs ++ ys) → AllAbove p xs
AllAbove-left p [] ys h = tt
AllAbove-left p (x ∷ xs) ys h = (h.0, AllAbove-left p xs ys h.1)

pub AllAbove-right : (p : Pair) (xs ys : List Entry) → AllAbove p (xs ++ ys) → AllAbove p ys
AllAbove-right p [] ys h = h
AllAbove-right p (x ∷ xs) ys h = AllAbove-right p xs ys h.1

pub AllAbove-from : (p q : Pair) (es : List Entry) → is_below p q ≡ true → AllAbove q es → AllAbove p es
AllAbove-from p q [] b h = tt
AllAbove-from p q (e ∷ es) b h = (below_trans p q e.pair b h.0, AllAbove-from p q es b h.1)

pub AllBelow-upto : (es : List Entry) (q p : Pair) → AllBelow es q → is_below p q ≡ false → AllBelow es p
AllBelow-upto [] q p h k = tt
AllBelow-upto (e ∷ es) q p h k = (below_upto e.pair q p h.0 k, AllBelow-upto es q p h.1 k)

pub IsAscending-left : (xs ys : List Entry) → IsAscending (xs ++ ys) → IsAscending xs
IsAscending-left [] ys h = tt
IsAscending-left (x ∷ xs) ys h = (AllAbove-left x.pair xs ys h.0, IsAscending-left xs ys h.1)

pub IsAscending-right : (xs ys : List Entry) → IsAscending (xs ++ ys) → IsAscending ys
IsAscending-right [] ys h = h
IsAscending-right (x ∷ xs) ys h = IsAscending-right xs ys h.1

above_head : (p : Pair) (xs : List Entry) (e : Entry) (ys : List Entry) → AllAbove p (xs ++ e ∷ ys) → is_below p e.pair ≡ true
above_head p [] e ys h = h.0
above_head p (x ∷ xs) e ys h = above_head p xs e ys h.1

-- what stands before an entry is below it
pub below_head : (xs : List Entry) (e : Entry) (ys : List Entry) → IsAscending (xs ++ e ∷ ys) → AllBelow xs e.pair
below_head [] e ys h = tt
below_head (x ∷ xs) e ys h = (above_head x.pair xs e ys h.0, below_head xs e ys h.1)

insert-suc : (x e : Entry) (xs : List Entry) (n m : ℕ) → m ≡ suc n → insert (x ∷ xs) m e ≡ x ∷ insert xs n e
insert-suc x e xs n m h = rw h refl

insert_at_place : (b : Bool) (x e : Entry) (xs : List Entry) (n : ℕ) (ys : List Entry) → insert xs n e ≡ ys
    → insert (x ∷ xs) (cond b (1 + n) 0) e ≡ cond b (x ∷ ys) (e ∷ x ∷ xs)
insert_at_place true x e xs n ys h = insert-suc x e xs n (1 + n) (omega arith) ∙ ap (λ w. x ∷ w) h
insert_at_place false x e xs n ys h = refl

pub insert-at_place : (es : List Entry) (e : Entry) → insert es (prefix_len (λ x. is_below x.pair e.pair) es) e ≡ insert_entry es e
insert-at_place [] e = refl
insert-at_place (x ∷ xs) e = insert_at_place (is_below x.pair e.pair) x e xs (prefix_len (λ y. is_below y.pair e.pair) xs) (insert_entry xs e)
    (insert-at_place xs e)
