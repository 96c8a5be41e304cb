-- The rows that somebody holds, as a list.
use Rattle.std.proofs.Common.{◌≡◌, ℕ, ◌<◌, ◌≤◌, Bool, true, false, cond, not, List, suc, [], ◌∷◌, ◌++◌, filter, Contains, Option, Some, None}
use Rattle.std.proofs.Common.{is_some, nat_eq, ◌+◌, ◌==◌, ◌&&◌, ◌||◌, ◌⊎◌, ◌↔◌, inl, inr, subst, refl, sym, ap, ◌∙◌, arith, eqb, eq-eqb}
use Rattle.std.proofs.Math.Bool.{or-false, or-true}
use Rattle.std.proofs.lemmas.List.Folds.{list_any_at}
use Rattle.std.specs.Map.{lookup, set_value}
use Rattle.record_values.specs.Values.{Place, is_among}
use Rattle.records.specs.ChangeValue.{ChangeValue}
use Rattle.txn_table.specs.Table.{TxnState, with_rid, holder_of, without, change_noted}
use Rattle.txn_table.specs.Held.{AreBelow, AreHeldBefore, IsBoundOf, place_number}
use Rattle.txn_table.specs.Sound.{OneHolder, AreHeldRows}
use Rattle.txn_table.proofs.Lookups.{place_test, is_among-append, not_among}

-- whether it is the same place
abbrev pub is_same : Place → Place → Bool
is_same q r = (r.page == q.page) && (r.slot == q.slot)

itself : (r : Place) → is_same r r ≡ true
itself r = λ i. eq-eqb r.page r.page refl i && eq-eqb r.slot r.slot refl i

-- ---- the test and the fact

pub among_from-Contains : (r : Place) (rs : List Place) → Contains rs r → is_among r rs ≡ true
among_from-Contains r rs at =
    list_any_at (λ q. (q.page == r.page) && (q.slot == r.slot)) rs at.0 r at.1 (ap (λ (q : Place). (q.page == r.page) && (q.slot == r.slot)) at.2 ∙ itself r)

pub Contains-from_among : (r : Place) (rs : List Place) → is_among r rs ≡ true → Contains rs r
Contains-from_among r [] e = absurd cc
Contains-from_among r (q ∷ rs) e = by (is_same r q) refl (Contains-from_among r rs) e
  where
    by : (b : Bool) → is_same r q ≡ b → (is_among r rs ≡ true → Contains rs r) → (b || is_among r rs) ≡ true → Contains (q ∷ rs) r
    by true same rest h = (0, omega arith, sym (place_test r q same))
    by false same rest h = let found = rest h in let within = found.1 in (suc found.0, omega arith, found.2)

-- ---- a row more

one_of : (a s o : Bool) → ((a || s) || o) ≡ ((a || o) || s)
one_of true s o = refl
one_of false true true = refl
one_of false true false = refl
one_of false false true = refl
one_of false false false = refl

together : (a o s : Bool) → (a || (o || s)) ≡ ((a || o) || s)
together true o s = refl
together false o s = refl

is_some-cond : (a : Bool) (k : ℕ) (o : Option ℕ) → is_some (cond a (Some k) o) ≡ (a || is_some o)
is_some-cond true k o = refl
is_some-cond false k o = refl

pub is_among-with_rid : (q r : Place) (rs : List Place) → is_among q (with_rid r rs) ≡ (is_among q rs || is_same q r)
is_among-with_rid q r rs = by (is_among r rs) refl
  where
    there : is_among r rs ≡ true → (s : Bool) → is_same q r ≡ s → is_among q rs ≡ (is_among q rs || s)
    there among true same = (ap (λ x. is_among x rs) (place_test q r same) ∙ among) ∙ sym (or-true (is_among q rs))
    there among false same = sym (or-false (is_among q rs))

    by : (b : Bool) → is_among r rs ≡ b → is_among q (cond b rs (rs ++ r ∷ [])) ≡ (is_among q rs || is_same q r)
    by true among = there among (is_same q r) refl
    by false among = is_among-append q r rs

is_some-noted : (txn : ℕ) (c : ChangeValue) (q : Place) (es : List (ℕ × TxnState)) (s : TxnState) → lookup (nat_eq txn) es ≡ Some s
    → is_some (holder_of q (set_value (nat_eq txn) es (change_noted c s))) ≡ (is_some (holder_of q es) || is_same q c.rid)
is_some-noted txn c q [] s here = absurd cc
is_some-noted txn c q (e ∷ es) s here = by (is_some-noted txn c q es s) (eqb txn e.0) here
  where
    before : is_some (holder_of q (e ∷ es)) ≡ (is_among q e.1.rows || is_some (holder_of q es))
    before = is_some-cond (is_among q e.1.rows) e.0 (holder_of q es)

    by : (lookup (nat_eq txn) es ≡ Some s → is_some (holder_of q (set_value (nat_eq txn) es (change_noted c s)))
        ≡ (is_some (holder_of q es) || is_same q c.rid))
        → (b : Bool) → cond b (Some e.1) (lookup (nat_eq txn) es) ≡ Some s
        → is_some (holder_of q (cond b ((e.0, change_noted c s) ∷ es) (e ∷ set_value (nat_eq txn) es (change_noted c s))))
        ≡ (is_some (holder_of q (e ∷ es)) || is_same q c.rid)
    by rest true h =
        let its : e.1 ≡ s = cc in
        is_some-cond (is_among q (with_rid c.rid s.rows)) e.0 (holder_of q es)
        ∙ ap (λ a. a || is_some (holder_of q es)) (is_among-with_rid q c.rid s.rows)
        ∙ one_of (is_among q s.rows) (is_same q c.rid) (is_some (holder_of q es))
        ∙ ap (λ (x : TxnState). (is_among q x.rows || is_some (holder_of q es)) || is_same q c.rid) (sym its)
        ∙ ap (λ a. a || is_same q c.rid) (sym before)
    by rest false h =
        is_some-cond (is_among q e.1.rows) e.0 (holder_of q (set_value (nat_eq txn) es (change_noted c s)))
        ∙ ap (λ a. is_among q e.1.rows || a) (rest h)
        ∙ together (is_among q e.1.rows) (is_some (holder_of q es)) (is_same q c.rid)
        ∙ ap (λ a. a || is_same q c.rid) (sym before)

pub AreHeldRows-noted : (txn : ℕ) (c : ChangeValue) (held : List Place) (es : List (ℕ × TxnState)) (s : TxnState) → lookup (nat_eq txn) es ≡ Some s
    → AreHeldRows held es → AreHeldRows (with_rid c.rid held) (set_value (nat_eq txn) es (change_noted c s))
AreHeldRows-noted txn c held es s here are = λ q.
    is_among-with_rid q c.rid held ∙ ap (λ a. a || is_same q c.rid) (are q) ∙ sym (is_some-noted txn c q es s here)

-- ---- the rows of a transaction that ends

pub holder_of-without_rows : (txn : ℕ) (q : Place) (es : List (ℕ × TxnState)) (s : TxnState) → OneHolder es → lookup (nat_eq txn) es ≡ Some s
    → holder_of q (without txn es) ≡ cond (is_among q s.rows) None (holder_of q es)
holder_of-without_rows txn q [] s one here = absurd cc
holder_of-without_rows txn q (e ∷ es) s one here = by (holder_of-without_rows txn q es s one.1) (eqb txn e.0) here (is_among q e.1.rows) refl
  where
    gone : (a : Bool) → is_among q e.1.rows ≡ a → holder_of q es ≡ cond a None (cond a (Some e.0) (holder_of q es))
    gone true among = one.0 q among
    gone false among = refl

    by : (lookup (nat_eq txn) es ≡ Some s → holder_of q (without txn es) ≡ cond (is_among q s.rows) None (holder_of q es))
        → (b : Bool) → cond b (Some e.1) (lookup (nat_eq txn) es) ≡ Some s → (a : Bool) → is_among q e.1.rows ≡ a
        → holder_of q (cond b es (e ∷ without txn es)) ≡ cond (is_among q s.rows) None (cond (is_among q e.1.rows) (Some e.0) (holder_of q es))
    by rest true h a among =
        let its : e.1 ≡ s = cc in
        gone (is_among q e.1.rows) refl
        ∙ ap (λ (x : TxnState). cond (is_among q x.rows) None (cond (is_among q e.1.rows) (Some e.0) (holder_of q es))) its
    by rest false h true among =
        let apart : is_among q s.rows ≡ false = not_among txn s q es h (one.0 q among) in
        ap (λ t. cond t (Some e.0) (holder_of q (without txn es))) among
        ∙ sym (λ i. cond (apart i) None (cond (among i) (Some e.0) (holder_of q es)))
    by rest false h false among =
        ap (λ t. cond t (Some e.0) (holder_of q (without txn es))) among
        ∙ rest h
        ∙ sym (ap (λ t. cond (is_among q s.rows) None (cond t (Some e.0) (holder_of q es))) among)

is_some-gone : (m : Bool) (o : Option ℕ) → (is_some o && not m) ≡ is_some (cond m None o)
is_some-gone true None = refl
is_some-gone true (Some k) = refl
is_some-gone false None = refl
is_some-gone false (Some k) = refl

is_among-filter : (q : Place) (rows held : List Place) → is_among q (filter (λ r. not (is_among r rows)) held) ≡ (is_among q held && not (is_among q rows))
is_among-filter q rows [] = refl
is_among-filter q rows (x ∷ xs) = by (is_among-filter q rows xs) (is_same q x) refl (is_among x rows) refl
  where
    alike : is_same q x ≡ true → is_among q rows ≡ is_among x rows
    alike same = ap (λ r. is_among r rows) (place_test q x same)

    dropped : (a m : Bool) → m ≡ true → (a && not m) ≡ (true && not m)
    dropped true true e = refl
    dropped false true e = refl
    dropped a false e = absurd cc

    stays : (a m : Bool) → m ≡ false → true ≡ ((true || a) && not m)
    stays a true e = absurd cc
    stays a false e = refl

    by : (is_among q (filter (λ r. not (is_among r rows)) xs) ≡ (is_among q xs && not (is_among q rows)))
        → (t : Bool) → is_same q x ≡ t → (m : Bool) → is_among x rows ≡ m
        → is_among q (cond (not (is_among x rows)) (x ∷ filter (λ r. not (is_among r rows)) xs) (filter (λ r. not (is_among r rows)) xs))
        ≡ ((is_same q x || is_among q xs) && not (is_among q rows))
    by rest true same true inside =
        ap (λ m. is_among q (cond (not m) (x ∷ filter (λ r. not (is_among r rows)) xs) (filter (λ r. not (is_among r rows)) xs))) inside
        ∙ rest
        ∙ dropped (is_among q xs) (is_among q rows) (alike same ∙ inside)
        ∙ sym (ap (λ t. (t || is_among q xs) && not (is_among q rows)) same)
    by rest true same false inside =
        ap (λ m. is_among q (cond (not m) (x ∷ filter (λ r. not (is_among r rows)) xs) (filter (λ r. not (is_among r rows)) xs))) inside
        ∙ ap (λ t. t || is_among q (filter (λ r. not (is_among r rows)) xs)) same
        ∙ stays (is_among q xs) (is_among q rows) (alike same ∙ inside)
        ∙ sym (ap (λ t. (t || is_among q xs) && not (is_among q rows)) same)
    by rest false same true inside =
        ap (λ m. is_among q (cond (not m) (x ∷ filter (λ r. not (is_among r rows)) xs) (filter (λ r. not (is_among r rows)) xs))) inside
        ∙ rest
        ∙ sym (ap (λ t. (t || is_among q xs) && not (is_among q rows)) same)
    by rest false same false inside =
        ap (λ m. is_among q (cond (not m) (x ∷ filter (λ r. not (is_among r rows)) xs) (filter (λ r. not (is_among r rows)) xs))) inside
        ∙ ap (λ t. t || is_among q (filter (λ r. not (is_among r rows)) xs)) same
        ∙ rest
        ∙ sym (ap (λ t. (t || is_among q xs) && not (is_among q rows)) same)

pub AreHeldRows-without : (txn : ℕ) (held : List Place) (es : List (ℕ × TxnState)) (s : TxnState) → OneHolder es → lookup (nat_eq txn) es ≡ Some s
    → AreHeldRows held es → AreHeldRows (filter (λ r. not (is_among r s.rows)) held) (without txn es)
AreHeldRows-without txn held es s one here are = λ q.
    is_among-filter q s.rows held
    ∙ ap (λ a. a && not (is_among q s.rows)) (are q)
    ∙ is_some-gone (is_among q s.rows) (holder_of q es)
    ∙ sym (ap is_some (holder_of-without_rows txn q es s one here))

-- ---- the least number above those of all rows

pub bound_none : (rows : List Place) → rows ≡ [] → IsBoundOf rows 0
bound_none rows none = record {
  above = λ q among. let gone : false ≡ true = ap (is_among q) (sym none) ∙ among in absurd cc;
  least = λ m below. omega arith;
}

pub bound_more : (rows : List Place) (r : Place) (n m : ℕ) → IsBoundOf rows n → n ≤ m → place_number r + 1 ≤ m
    → ((k : ℕ) → n ≤ k → place_number r + 1 ≤ k → m ≤ k) → IsBoundOf (rows ++ r ∷ []) m
bound_more rows r n m is low fits least = record {
  above = λ q among. by_place q (or_parts (is_among q rows) (is_same q r) (sym (is_among-append q r rows) ∙ among));
  least = λ k below. least k
      (is.least k (λ q among. below q (is_among-append q r rows ∙ ap (λ a. a || is_same q r) among)))
      (next (below r (is_among-append r r rows ∙ ap (λ s. is_among r rows || s) (itself r) ∙ or-true (is_among r rows))));
}
  where
    or_parts : (a b : Bool) → (a || b) ≡ true → (a ≡ true) ⊎ (b ≡ true)
    or_parts true b e = inl refl
    or_parts false b e = inr e

    next : {k : ℕ} → place_number r < k → place_number r + 1 ≤ k
    next h = omega arith

    by_place : (q : Place) → (is_among q rows ≡ true) ⊎ (is_same q r ≡ true) → place_number q < m
    by_place q (inl had) = let before = is.above q had in omega arith
    by_place q (inr same) = subst (λ (x : Place). place_number x < m) (sym (place_test q r same)) (omega arith)

-- a row behind all of them is none of them
pub not_before : (r : Place) (rows : List Place) → AreBelow (place_number r) rows → is_among r rows ≡ false
not_before r rows below = by (is_among r rows) refl
  where
    by : (b : Bool) → is_among r rows ≡ b → is_among r rows ≡ false
    by true among = let before = below r among in absurd (omega arith)
    by false among = among

-- the rows of a table are below a number where each that somebody holds is
pub below_as_held : (r : Place) (held : List Place) (active : List (ℕ × TxnState)) → AreHeldRows held active
    → AreBelow (place_number r) held ↔ AreHeldBefore r active
below_as_held r held active are =
    (λ below q some. below q (are q ∙ some), λ before q among. before q (sym (are q) ∙ among))

pub nobody : (holder : Option ℕ) → is_some holder ≡ false → holder ≡ None
nobody None none = refl
nobody (Some k) none = absurd cc
