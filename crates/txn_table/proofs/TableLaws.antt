-- Laws of the words of specs/Table: what a lookup finds after a step, and who holds a row.
use Rattle.std.proofs.Common.{◌≡◌, ◌≢◌, ℕ, ◌+◌, ◌≤◌, Bool, true, false, cond, List, [], ◌∷◌, Some, None, option_map, ◌⊎◌, inl, inr, refl, sym, ap, ◌∙◌, arith}
use Rattle.std.proofs.Common.{eqb, ◌==◌, ◌||◌}
use Rattle.std.proofs.Math.Bool.{or-false}
use Rattle.std.proofs.lemmas.Bool.Decides.{eqb_tells}
use Rattle.record_values.specs.Values.{Place, is_among}
use Rattle.records.specs.ChangeValue.{ChangeValue}
use Rattle.txn_table.specs.Table.{TxnState, TableValue, with_rid, change_noted, without_last, put_at, state_of, with_state, without, with_next}
use Rattle.txn_table.specs.Table.{holder_of}
use Rattle.txn_table.specs.declared.progress.Progress.{Progress}
use Rattle.txn_table.specs.Sound.{Rises, OneHolder, IsSoundTable}
use Rattle.txn_table.proofs.Lookups.{place_test, among_new, holder_above, holder_is}
use Rattle.txn_table.proofs.HeldRows.{is_same, is_among-with_rid, holder_of-without_rows}
use Rattle.txn_table.proofs.Keeps.{holder_of-next}

-- ---- the state of a transaction

either_way : {X : Type 0} (b : Bool) (x : X) → x ≡ cond b x x
either_way true x = refl
either_way false x = refl

eqb_itself : (n m : ℕ) → n ≡ m → eqb n m ≡ true
eqb_itself n m e = by (eqb_tells n m)
  where
    by : ((eqb n m ≡ true) × (n ≡ m)) ⊎ ((eqb n m ≡ false) × (n ≢ m)) → eqb n m ≡ true
    by (inl p) = p.0
    by (inr p) = absurd (p.1 e)

eqb_apart : (n m : ℕ) → n ≢ m → eqb n m ≡ false
eqb_apart n m ne = by (eqb_tells n m)
  where
    by : ((eqb n m ≡ true) × (n ≡ m)) ⊎ ((eqb n m ≡ false) × (n ≢ m)) → eqb n m ≡ false
    by (inl p) = absurd (ne p.1)
    by (inr p) = p.0

pub state_of-with_state : (f : TxnState → TxnState) (txn q : ℕ) (es : List (ℕ × TxnState))
    → state_of q (with_state f txn es) ≡ cond (q == txn) (option_map f (state_of txn es)) (state_of q es)
state_of-with_state f txn q [] = either_way (q == txn) None
state_of-with_state f txn q (e ∷ es) = by (state_of-with_state f txn q es) (eqb_tells txn e.0) (eqb_tells q e.0)
  where
    by : state_of q (with_state f txn es) ≡ cond (q == txn) (option_map f (state_of txn es)) (state_of q es)
        → ((eqb txn e.0 ≡ true) × (txn ≡ e.0)) ⊎ ((eqb txn e.0 ≡ false) × (txn ≢ e.0)) → ((eqb q e.0 ≡ true) × (q ≡ e.0)) ⊎ ((eqb q e.0 ≡ false) × (q ≢ e.0))
        → state_of q (with_state f txn (e ∷ es)) ≡ cond (q == txn) (option_map f (state_of txn (e ∷ es))) (state_of q (e ∷ es))
    by rest (inl p) (inl r) =
        let same = eqb_itself q txn (r.1 ∙ sym p.1) in
        ap (λ b. state_of q (cond b ((e.0, f e.1) ∷ es) (e ∷ with_state f txn es))) p.0
        ∙ ap (λ b. cond b (Some (f e.1)) (state_of q es)) r.0
        ∙ sym (λ i. cond (same i) (option_map f (cond (p.0 i) (Some e.1) (state_of txn es))) (state_of q (e ∷ es)))
    by rest (inl p) (inr r) =
        let other = eqb_apart q txn (λ x. r.1 (x ∙ p.1)) in
        ap (λ b. state_of q (cond b ((e.0, f e.1) ∷ es) (e ∷ with_state f txn es))) p.0
        ∙ ap (λ b. cond b (Some (f e.1)) (state_of q es)) r.0
        ∙ sym (λ i. cond (other i) (option_map f (state_of txn (e ∷ es))) (cond (r.0 i) (Some e.1) (state_of q es)))
    by rest (inr p) (inl r) =
        let other = eqb_apart q txn (λ x. p.1 (sym x ∙ r.1)) in
        ap (λ b. state_of q (cond b ((e.0, f e.1) ∷ es) (e ∷ with_state f txn es))) p.0
        ∙ ap (λ b. cond b (Some e.1) (state_of q (with_state f txn es))) r.0
        ∙ sym (λ i. cond (other i) (option_map f (state_of txn (e ∷ es))) (cond (r.0 i) (Some e.1) (state_of q es)))
    by rest (inr p) (inr r) =
        ap (λ b. state_of q (cond b ((e.0, f e.1) ∷ es) (e ∷ with_state f txn es))) p.0
        ∙ ap (λ b. cond b (Some e.1) (state_of q (with_state f txn es))) r.0
        ∙ rest
        ∙ sym (λ i. cond (q == txn) (option_map f (cond (p.0 i) (Some e.1) (state_of txn es))) (cond (r.0 i) (Some e.1) (state_of q es)))

-- a number at most the bound is no active transaction's
no_state : (low high q : ℕ) (es : List (ℕ × TxnState)) → Rises low es high → q ≤ low → state_of q es ≡ None
no_state low high q [] rises h = refl
no_state low high q (e ∷ es) rises h =
    let first = rises.0 in
    ap (λ b. cond b (Some e.1) (state_of q es)) (eqb_apart q e.0 (λ x. omega arith)) ∙ no_state e.0 high q es rises.1 (omega arith)

pub state_of-without : (low high txn q : ℕ) (es : List (ℕ × TxnState)) → Rises low es high → state_of q (without txn es) ≡ cond (q == txn) None (state_of q es)
state_of-without low high txn q [] rises = either_way (q == txn) None
state_of-without low high txn q (e ∷ es) rises = by (state_of-without e.0 high txn q es rises.1) (eqb_tells txn e.0) (eqb_tells q e.0)
  where
    gone : txn ≡ e.0 → state_of txn es ≡ None
    gone same = no_state e.0 high txn es rises.1 (omega arith)

    by : state_of q (without txn es) ≡ cond (q == txn) None (state_of q es)
        → ((eqb txn e.0 ≡ true) × (txn ≡ e.0)) ⊎ ((eqb txn e.0 ≡ false) × (txn ≢ e.0)) → ((eqb q e.0 ≡ true) × (q ≡ e.0)) ⊎ ((eqb q e.0 ≡ false) × (q ≢ e.0))
        → state_of q (without txn (e ∷ es)) ≡ cond (q == txn) None (state_of q (e ∷ es))
    by rest (inl p) (inl r) =
        let same = eqb_itself q txn (r.1 ∙ sym p.1) in
        ap (λ b. state_of q (cond b es (e ∷ without txn es))) p.0
        ∙ ap (λ k. state_of k es) (r.1 ∙ sym p.1)
        ∙ gone p.1
        ∙ sym (ap (λ b. cond b None (state_of q (e ∷ es))) same)
    by rest (inl p) (inr r) =
        let other = eqb_apart q txn (λ x. r.1 (x ∙ p.1)) in
        ap (λ b. state_of q (cond b es (e ∷ without txn es))) p.0 ∙ sym (λ i. cond (other i) None (cond (r.0 i) (Some e.1) (state_of q es)))
    by rest (inr p) (inl r) =
        let other = eqb_apart q txn (λ x. p.1 (sym x ∙ r.1)) in
        ap (λ b. state_of q (cond b es (e ∷ without txn es))) p.0
        ∙ ap (λ b. cond b (Some e.1) (state_of q (without txn es))) r.0
        ∙ sym (λ i. cond (other i) None (cond (r.0 i) (Some e.1) (state_of q es)))
    by rest (inr p) (inr r) =
        ap (λ b. state_of q (cond b es (e ∷ without txn es))) p.0
        ∙ ap (λ b. cond b (Some e.1) (state_of q (without txn es))) r.0
        ∙ rest
        ∙ sym (ap (λ b. cond (q == txn) None (cond b (Some e.1) (state_of q es))) r.0)

-- ---- the holder of a row

pub holder_of-with_next : (t : TableValue) (r : Place) → holder_of r (with_next t).active ≡ holder_of r t.active
holder_of-with_next t r = holder_of-next (t.begun + 1) r t.active

pub holder_of-without_last : (txn : ℕ) (r : Place) (es : List (ℕ × TxnState)) → holder_of r (with_state without_last txn es) ≡ holder_of r es
holder_of-without_last txn r [] = refl
holder_of-without_last txn r (e ∷ es) = by (eqb txn e.0) (holder_of-without_last txn r es)
  where
    by : (b : Bool) → holder_of r (with_state without_last txn es) ≡ holder_of r es
        → holder_of r (cond b ((e.0, without_last e.1) ∷ es) (e ∷ with_state without_last txn es)) ≡ holder_of r (e ∷ es)
    by true rest = refl
    by false rest = ap (cond (is_among r e.1.rows) (Some e.0)) rest

pub holder_of-put_at : (p : Progress) (n txn : ℕ) (r : Place) (es : List (ℕ × TxnState)) → holder_of r (with_state (put_at p n) txn es) ≡ holder_of r es
holder_of-put_at p n txn r [] = refl
holder_of-put_at p n txn r (e ∷ es) = by (eqb txn e.0) (holder_of-put_at p n txn r es)
  where
    by : (b : Bool) → holder_of r (with_state (put_at p n) txn es) ≡ holder_of r es
        → holder_of r (cond b ((e.0, put_at p n e.1) ∷ es) (e ∷ with_state (put_at p n) txn es)) ≡ holder_of r (e ∷ es)
    by true rest = refl
    by false rest = ap (cond (is_among r e.1.rows) (Some e.0)) rest

not_same : (q r : Place) → q ≢ r → is_same q r ≡ false
not_same q r ne = by (is_same q r) refl
  where
    by : (b : Bool) → is_same q r ≡ b → b ≡ false
    by true e = absurd (ne (place_test q r e))
    by false e = refl

-- a change of another row
pub holder_of-noted_other : (txn : ℕ) (c : ChangeValue) (q : Place) (es : List (ℕ × TxnState)) → q ≢ c.rid
    → holder_of q (with_state (change_noted c) txn es) ≡ holder_of q es
holder_of-noted_other txn c q [] ne = refl
holder_of-noted_other txn c q (e ∷ es) ne = by (eqb txn e.0) (holder_of-noted_other txn c q es ne)
  where
    among : is_among q (with_rid c.rid e.1.rows) ≡ is_among q e.1.rows
    among = is_among-with_rid q c.rid e.1.rows ∙ ap (λ b. is_among q e.1.rows || b) (not_same q c.rid ne) ∙ or-false (is_among q e.1.rows)

    by : (b : Bool) → holder_of q (with_state (change_noted c) txn es) ≡ holder_of q es
        → holder_of q (cond b ((e.0, change_noted c e.1) ∷ es) (e ∷ with_state (change_noted c) txn es)) ≡ holder_of q (e ∷ es)
    by true rest = ap (λ b. cond b (Some e.0) (holder_of q es)) among
    by false rest = ap (cond (is_among q e.1.rows) (Some e.0)) rest

-- a change of this row
pub holder_of-noted : (txn : ℕ) (c : ChangeValue) (es : List (ℕ × TxnState)) (s : TxnState) → state_of txn es ≡ Some s
    → OneHolder (with_state (change_noted c) txn es) → holder_of c.rid (with_state (change_noted c) txn es) ≡ Some txn
holder_of-noted txn c es s here one =
    holder_is txn (change_noted c s) c.rid (with_state (change_noted c) txn es) one
    (state_of-with_state (change_noted c) txn txn es
    ∙ ap (λ b. cond b (option_map (change_noted c) (state_of txn es)) (state_of txn es)) (eqb_itself txn txn refl) ∙ ap (option_map (change_noted c)) here)
    (among_new c.rid s.rows)

-- the rows of a transaction are those that it is the holder of
holds_it : (low high txn : ℕ) (q : Place) (es : List (ℕ × TxnState)) (s : TxnState) → Rises low es high → state_of txn es ≡ Some s → holder_of q es ≡ Some txn
    → is_among q s.rows ≡ true
holds_it low high txn q [] s rises here holds = absurd cc
holds_it low high txn q (e ∷ es) s rises here holds = by (holds_it e.0 high txn q es s rises.1) (is_among q e.1.rows) refl holds
  where
    by : (state_of txn es ≡ Some s → holder_of q es ≡ Some txn → is_among q s.rows ≡ true) → (b : Bool) → is_among q e.1.rows ≡ b
        → cond b (Some e.0) (holder_of q es) ≡ Some txn → is_among q s.rows ≡ true
    by rest true among h =
        let same : e.0 ≡ txn = cc in
        let its : Some e.1 ≡ Some s = sym (ap (λ b. cond b (Some e.1) (state_of txn es)) (eqb_itself txn e.0 (sym same))) ∙ here in
        let is : e.1 ≡ s = cc in
        ap (λ (x : TxnState). is_among q x.rows) (sym is) ∙ among
    by rest false among h =
        let above = holder_above e.0 high q es txn rises.1 h in
        rest (sym (ap (λ b. cond b (Some e.1) (state_of txn es)) (eqb_apart txn e.0 (λ x. omega arith))) ∙ here) h

-- the end of the holder
pub holder_of-without : (t : TableValue) (txn : ℕ) (q : Place) (s : TxnState) → IsSoundTable t → state_of txn t.active ≡ Some s
    → holder_of q t.active ≡ Some txn → holder_of q (without txn t.active) ≡ None
holder_of-without t txn q s sound here holds =
    holder_of-without_rows txn q t.active s sound.one_holder here
    ∙ ap (λ b. cond b None (holder_of q t.active)) (holds_it 0 t.begun txn q t.active s sound.rising here holds)

-- the end of another
pub holder_of-without_other : (t : TableValue) (txn : ℕ) (q : Place) (s : TxnState) → IsSoundTable t → state_of txn t.active ≡ Some s
    → holder_of q t.active ≢ Some txn → holder_of q (without txn t.active) ≡ holder_of q t.active
holder_of-without_other t txn q s sound here other =
    holder_of-without_rows txn q t.active s sound.one_holder here ∙ by (is_among q s.rows) refl
  where
    by : (b : Bool) → is_among q s.rows ≡ b → cond b None (holder_of q t.active) ≡ holder_of q t.active
    by true among = absurd (other (holder_is txn s q t.active sound.one_holder here among))
    by false among = refl
