-- Lookups by number and by row.
use Rattle.std.proofs.Common.{◌≡◌, ℕ, ◌<◌, Bool, true, false, cond, List, [], ◌∷◌, ◌++◌, Some, None, nat_eq, ◌==◌, ◌&&◌, ◌||◌, ◌⊎◌, inl, inr, refl, sym, ap}
use Rattle.std.proofs.Common.{◌∙◌, Option, arith, eqb, eq-eqb, zero, suc, drop, slice_get}
use Rattle.std.proofs.Math.Bool.{or-false}
use Rattle.std.proofs.lemmas.Bool.{eqb-true}
use Rattle.std.proofs.lemmas.List.Folds.{list_any-append}
use Rattle.std.specs.Map.{lookup, set_value, values_of}
use Rattle.indexmap.specs.IndexMap.{set_value_at}
use Rattle.record_values.specs.Values.{Place, is_among}
use Rattle.txn_table.specs.Table.{TxnState, with_rid, holder_of, with_state}
use Rattle.txn_table.specs.Places.{place_of}
use Rattle.txn_table.specs.Sound.{Rises, OneHolder}

and_first : (a b : Bool) → (a && b) ≡ true → a ≡ true
and_first true b e = refl
and_first false b e = absurd cc

and_second : (a b : Bool) → (a && b) ≡ true → b ≡ true
and_second true b e = e
and_second false b e = absurd cc

or_cases : (a b : Bool) → (a || b) ≡ true → (a ≡ true) ⊎ (b ≡ true)
or_cases true b e = inl refl
or_cases false b e = inr e

-- a write through the map is one by number
pub set_value-with_state : (f : TxnState → TxnState) (txn : ℕ) (es : List (ℕ × TxnState)) (w w' : TxnState) → lookup (nat_eq txn) es ≡ Some w → w' ≡ f w
    → set_value (nat_eq txn) es w' ≡ with_state f txn es
set_value-with_state f txn [] w w' here e = refl
set_value-with_state f txn (d ∷ es) w w' here e = by (λ h. set_value-with_state f txn es w w' h e) (eqb txn d.0) here
  where
    by : (lookup (nat_eq txn) es ≡ Some w → set_value (nat_eq txn) es w' ≡ with_state f txn es) → (b : Bool)
        → cond b (Some d.1) (lookup (nat_eq txn) es) ≡ Some w
        → cond b ((d.0, w') ∷ es) (d ∷ set_value (nat_eq txn) es w') ≡ cond b ((d.0, f d.1) ∷ es) (d ∷ with_state f txn es)
    by rest true h = let same : d.1 ≡ w = cc in ap (λ (x : TxnState). (d.0, x) ∷ es) (e ∙ ap f (sym same))
    by rest false h = ap (λ xs. d ∷ xs) (rest h)

-- a write of the same state changes nothing
pub set_value-same : (txn : ℕ) (es : List (ℕ × TxnState)) (w w' : TxnState) → lookup (nat_eq txn) es ≡ Some w → w' ≡ w → set_value (nat_eq txn) es w' ≡ es
set_value-same txn [] w w' here e = refl
set_value-same txn (d ∷ es) w w' here e = by (λ h. set_value-same txn es w w' h e) (eqb txn d.0) here
  where
    by : (lookup (nat_eq txn) es ≡ Some w → set_value (nat_eq txn) es w' ≡ es) → (b : Bool) → cond b (Some d.1) (lookup (nat_eq txn) es) ≡ Some w
        → cond b ((d.0, w') ∷ es) (d ∷ set_value (nat_eq txn) es w') ≡ d ∷ es
    by rest true h = let same : d.1 ≡ w = cc in ap (λ (x : TxnState). (d.0, x) ∷ es) (e ∙ sym same)
    by rest false h = ap (λ xs. d ∷ xs) (rest h)

-- an unknown transaction's state cannot be changed
pub with_state-unknown : (f : TxnState → TxnState) (txn : ℕ) (es : List (ℕ × TxnState)) → lookup (nat_eq txn) es ≡ None → with_state f txn es ≡ es
with_state-unknown f txn [] none = refl
with_state-unknown f txn (d ∷ es) none = by (with_state-unknown f txn es) (eqb txn d.0) none
  where
    by : (lookup (nat_eq txn) es ≡ None → with_state f txn es ≡ es) → (b : Bool) → cond b (Some d.1) (lookup (nat_eq txn) es) ≡ None
        → cond b ((d.0, f d.1) ∷ es) (d ∷ with_state f txn es) ≡ d ∷ es
    by rest true h = absurd cc
    by rest false h = ap (λ xs. d ∷ xs) (rest h)

-- the holder's number is above the bound
pub holder_above : (low high : ℕ) (r : Place) (es : List (ℕ × TxnState)) (k : ℕ) → Rises low es high → holder_of r es ≡ Some k → low < k
holder_above low high r [] k rises h = absurd cc
holder_above low high r (e ∷ es) k rises h = by (holder_above e.0 high r es k rises.1) (is_among r e.1.rows) h
  where
    by : (holder_of r es ≡ Some k → e.0 < k) → (b : Bool) → cond b (Some e.0) (holder_of r es) ≡ Some k → low < k
    by rest true h = let same : e.0 ≡ k = cc in let first = rises.0 in omega arith
    by rest false h = let later = rest h in let first = rises.0 in omega arith

-- an active transaction with the row is its holder
pub holder_is : (txn : ℕ) (w : TxnState) (r : Place) (es : List (ℕ × TxnState)) → OneHolder es → lookup (nat_eq txn) es ≡ Some w → is_among r w.rows ≡ true
    → holder_of r es ≡ Some txn
holder_is txn w r [] one here among = absurd cc
holder_is txn w r (e ∷ es) one here among = by (λ h. holder_is txn w r es one.1 h among) (eqb txn e.0) (eqb-true txn e.0) here
  where
    later : holder_of r es ≡ Some txn → (b : Bool) → is_among r e.1.rows ≡ b → cond b (Some e.0) (holder_of r es) ≡ Some txn
    later held true also = let none = one.0 r also in absurd cc
    later held false not_here = held

    by : (lookup (nat_eq txn) es ≡ Some w → holder_of r es ≡ Some txn) → (b : Bool) → (b ≡ true → txn ≡ e.0)
        → cond b (Some e.1) (lookup (nat_eq txn) es) ≡ Some w
        → cond (is_among r e.1.rows) (Some e.0) (holder_of r es) ≡ Some txn
    by rest true same h =
        let its : e.1 ≡ w = cc in
        ap (λ b. cond b (Some e.0) (holder_of r es)) (ap (λ (x : TxnState). is_among r x.rows) its ∙ among) ∙ ap Some (sym (same refl))
    by rest false same h = later (rest h) (is_among r e.1.rows) refl

-- a holder has the row
pub among_own : (low high txn : ℕ) (w : TxnState) (r : Place) (es : List (ℕ × TxnState)) → Rises low es high → lookup (nat_eq txn) es ≡ Some w
    → holder_of r es ≡ Some txn → is_among r w.rows ≡ true
among_own low high txn w r [] rises here held = absurd cc
among_own low high txn w r (e ∷ es) rises here held =
    by (among_own e.0 high txn w r es rises.1) (holder_above e.0 high r es txn rises.1) (eqb txn e.0) (eqb-true txn e.0) (eq-eqb txn e.0) here
    (is_among r e.1.rows) refl held
  where
    by : (lookup (nat_eq txn) es ≡ Some w → holder_of r es ≡ Some txn → is_among r w.rows ≡ true) → (holder_of r es ≡ Some txn → e.0 < txn) → (b : Bool)
        → (b ≡ true → txn ≡ e.0) → (txn ≡ e.0 → b ≡ true)
        → cond b (Some e.1) (lookup (nat_eq txn) es) ≡ Some w → (a : Bool) → is_among r e.1.rows ≡ a → cond a (Some e.0) (holder_of r es) ≡ Some txn
        → is_among r w.rows ≡ true
    by rest later true same is h true among held = let its : e.1 ≡ w = cc in ap (λ (x : TxnState). is_among r x.rows) (sym its) ∙ among
    by rest later true same is h false among held = let above = later held in let own = same refl in absurd (omega arith)
    by rest later false same is h true among held = let own : e.0 ≡ txn = cc in let no = is (sym own) in absurd cc
    by rest later false same is h false among held = rest h held

-- a transaction does not have a row that nobody holds
pub not_among : (txn : ℕ) (w : TxnState) (r : Place) (es : List (ℕ × TxnState)) → lookup (nat_eq txn) es ≡ Some w → holder_of r es ≡ None
    → is_among r w.rows ≡ false
not_among txn w r [] here none = absurd cc
not_among txn w r (e ∷ es) here none = by (not_among txn w r es) (eqb txn e.0) here (is_among r e.1.rows) refl none
  where
    by : (lookup (nat_eq txn) es ≡ Some w → holder_of r es ≡ None → is_among r w.rows ≡ false) → (b : Bool)
        → cond b (Some e.1) (lookup (nat_eq txn) es) ≡ Some w → (a : Bool) → is_among r e.1.rows ≡ a → cond a (Some e.0) (holder_of r es) ≡ None
        → is_among r w.rows ≡ false
    by rest b h true among n = absurd cc
    by rest true h false among n = let its : e.1 ≡ w = cc in ap (λ (x : TxnState). is_among r x.rows) (sym its) ∙ among
    by rest false h false among n = rest h n

pub place_test : (q r : Place) → ((r.page == q.page) && (r.slot == q.slot)) ≡ true → q ≡ r
place_test q r e =
    let page = eqb-true r.page q.page (and_first (r.page == q.page) (r.slot == q.slot) e) in
    let slot = eqb-true r.slot q.slot (and_second (r.page == q.page) (r.slot == q.slot) e) in
    λ i. record { page = sym page i; slot = sym slot i }

pub is_among-append : (q r : Place) (rs : List Place) → is_among q (rs ++ r ∷ []) ≡ (is_among q rs || ((r.page == q.page) && (r.slot == q.slot)))
is_among-append q r rs =
    list_any-append (λ x. (x.page == q.page) && (x.slot == q.slot)) rs (r ∷ [])
    ∙ ap (λ b. is_among q rs || b) (or-false ((r.page == q.page) && (r.slot == q.slot)))

-- a row among those with r was among them, or is r
pub among_more : (q r : Place) (rs : List Place) → is_among q (with_rid r rs) ≡ true → (is_among q rs ≡ true) ⊎ (q ≡ r)
among_more q r rs = by (is_among r rs)
  where
    by : (b : Bool) → is_among q (cond b rs (rs ++ r ∷ [])) ≡ true → (is_among q rs ≡ true) ⊎ (q ≡ r)
    by true e = inl e
    by false e = last (or_cases (is_among q rs) ((r.page == q.page) && (r.slot == q.slot)) (sym (is_among-append q r rs) ∙ e))
      where
        last : (is_among q rs ≡ true) ⊎ (((r.page == q.page) && (r.slot == q.slot)) ≡ true) → (is_among q rs ≡ true) ⊎ (q ≡ r)
        last (inl h) = inl h
        last (inr h) = inr (place_test q r h)

or_left : (a b : Bool) → a ≡ true → (a || b) ≡ true
or_left true b e = refl
or_left false b e = absurd cc

or_right : (a b : Bool) → b ≡ true → (a || b) ≡ true
or_right true b e = refl
or_right false b e = e

-- and each of them stays
pub among_kept : (q r : Place) (rs : List Place) → is_among q rs ≡ true → is_among q (with_rid r rs) ≡ true
among_kept q r rs e = by (is_among r rs)
  where
    by : (b : Bool) → is_among q (cond b rs (rs ++ r ∷ [])) ≡ true
    by true = e
    by false = is_among-append q r rs ∙ or_left (is_among q rs) ((r.page == q.page) && (r.slot == q.slot)) e

same_test : (n : ℕ) → eqb n n ≡ true
same_test n = eq-eqb n n refl

-- and r is there
pub among_new : (r : Place) (rs : List Place) → is_among r (with_rid r rs) ≡ true
among_new r rs = by (is_among r rs) refl
  where
    itself : ((r.page == r.page) && (r.slot == r.slot)) ≡ true
    itself = (λ i. same_test r.page i && same_test r.slot i)

    by : (b : Bool) → is_among r rs ≡ b → is_among r (cond b rs (rs ++ r ∷ [])) ≡ true
    by true e = e
    by false e = is_among-append r r rs ∙ or_right (is_among r rs) ((r.page == r.page) && (r.slot == r.slot)) itself

-- the place of a transaction
value_at_place : (txn : ℕ) (es : List (ℕ × TxnState)) → slice_get (values_of es) (place_of txn es) ≡ lookup (nat_eq txn) es
value_at_place txn [] = refl
value_at_place txn (e ∷ es) = by (eqb txn e.0) (value_at_place txn es)
  where
    by : (b : Bool) → slice_get (values_of es) (place_of txn es) ≡ lookup (nat_eq txn) es
        → slice_get (e.1 ∷ values_of es) (cond b 0 (suc (place_of txn es))) ≡ cond b (Some e.1) (lookup (nat_eq txn) es)
    by true rest = refl
    by false rest = rest

set_at_place : (txn : ℕ) (es : List (ℕ × TxnState)) (w : TxnState) → set_value_at es (place_of txn es) w ≡ set_value (nat_eq txn) es w
set_at_place txn [] w = refl
set_at_place txn (e ∷ es) w = by (eqb txn e.0) (set_at_place txn es w)
  where
    by : (b : Bool) → set_value_at es (place_of txn es) w ≡ set_value (nat_eq txn) es w
        → set_value_at (e ∷ es) (cond b 0 (suc (place_of txn es))) w ≡ cond b ((e.0, w) ∷ es) (e ∷ set_value (nat_eq txn) es w)
    by true rest = refl
    by false rest = ap (λ xs. e ∷ xs) rest

-- what is read, and what is written, at this place
pub found_at : (txn k : ℕ) (es : List (ℕ × TxnState)) (o : Option TxnState) → k ≡ place_of txn es → o ≡ slice_get (values_of es) k
    → lookup (nat_eq txn) es ≡ o
found_at txn k es o is value = sym (value ∙ (ap (slice_get (values_of es)) is ∙ value_at_place txn es))

pub written_at : (txn k : ℕ) (es : List (ℕ × TxnState)) (w : TxnState) → k ≡ place_of txn es → set_value_at es k w ≡ set_value (nat_eq txn) es w
written_at txn k es w is = ap (λ j. set_value_at es j w) is ∙ set_at_place txn es w

-- a search from i on looks at that entry first
pub place_of-drop : (txn : ℕ) (es : List (ℕ × TxnState)) (i : ℕ) (e : ℕ × TxnState) → slice_get es i ≡ Some e
    → place_of txn (drop i es) ≡ cond (eqb txn e.0) 0 (suc (place_of txn (drop (suc i) es)))
place_of-drop txn [] i e h = absurd cc
place_of-drop txn (d ∷ es) zero e h = let same : d ≡ e = cc in ap (λ (x : ℕ × TxnState). cond (eqb txn x.0) 0 (suc (place_of txn es))) same
place_of-drop txn (d ∷ es) (suc i) e h = place_of-drop txn es i e h

pub state_of-drop : (txn : ℕ) (es : List (ℕ × TxnState)) (i : ℕ) (e : ℕ × TxnState) → slice_get es i ≡ Some e
    → lookup (nat_eq txn) (drop i es) ≡ cond (eqb txn e.0) (Some e.1) (lookup (nat_eq txn) (drop (suc i) es))
state_of-drop txn [] i e h = absurd cc
state_of-drop txn (d ∷ es) zero e h = let same : d ≡ e = cc in ap (λ (x : ℕ × TxnState). cond (eqb txn x.0) (Some x.1) (lookup (nat_eq txn) es)) same
state_of-drop txn (d ∷ es) (suc i) e h = state_of-drop txn es i e h

pub holder_of-drop : (r : Place) (es : List (ℕ × TxnState)) (i : ℕ) (e : ℕ × TxnState) → slice_get es i ≡ Some e
    → holder_of r (drop i es) ≡ cond (is_among r e.1.rows) (Some e.0) (holder_of r (drop (suc i) es))
holder_of-drop r [] i e h = absurd cc
holder_of-drop r (d ∷ es) zero e h = let same : d ≡ e = cc in ap (λ (x : ℕ × TxnState). cond (is_among r x.1.rows) (Some x.0) (holder_of r es)) same
holder_of-drop r (d ∷ es) (suc i) e h = holder_of-drop r es i e h
