-- What holds of every table stays so.
use Rattle.std.proofs.Common.{◌≡◌, ◌≢◌, ℕ, ◌+◌, ◌-◌, ◌<◌, ◌≤◌, Bool, true, false, cond, List, zero, suc, [], ◌∷◌, ◌++◌, length, take, filter, not, is_some}
use Rattle.std.proofs.Common.{Option, Some, None, nat_eq, ◌⊎◌, inl, inr, refl, sym, ap, subst, ◌∙◌, arith, eqb, length-append, length-take}
use Rattle.std.proofs.lemmas.Bool.Decides.{eqb_tells}
use Rattle.std.specs.Map.{lookup, set_value}
use Rattle.indexmap.specs.IndexMap.{insert_entry}
use Rattle.record_values.specs.Values.{Place, is_among}
use Rattle.records.specs.ChangeValue.{ChangeValue}
use Rattle.records.specs.declared.change.TheConstants.{CHANGES_MAX}
use Rattle.record_values.specs.declared.txn.TheConstants.{TXNS_MAX}
use Rattle.txn_table.specs.Table.{TxnState, TableValue, fresh_txn, with_rid, holder_of, with_next, without, change_noted, without_last, put_at}
use Rattle.txn_table.specs.declared.progress.Progress.{Progress}
use Rattle.txn_table.specs.Sound.{Rises, AllHeld, IsSoundTxn, EachSoundTxn, OneHolder, IsSoundTable, IsTableKept}
use Rattle.txn_table.proofs.Lookups.{holder_above, not_among, among_kept, among_new, among_more}
use Rattle.txn_table.proofs.HeldRows.{AreHeldRows-noted, AreHeldRows-without}

-- ---- a new transaction

at_most : (low n : ℕ) (es : List (ℕ × TxnState)) → Rises low es n → low ≤ n
at_most low n [] rises = rises
at_most low n (e ∷ es) rises = let later = at_most e.0 n es rises.1 in let first = rises.0 in omega arith

pub insert_entry-next : (low n : ℕ) (es : List (ℕ × TxnState)) (k : ℕ) (w : TxnState) → Rises low es n → n < k → insert_entry nat_eq es k w ≡ es ++ (k, w) ∷ []
insert_entry-next low n [] k w rises h = refl
insert_entry-next low n (e ∷ es) k w rises h = by (insert_entry-next e.0 n es k w rises.1 h) (eqb_tells k e.0)
  where
    by : insert_entry nat_eq es k w ≡ es ++ (k, w) ∷ [] → ((eqb k e.0 ≡ true) × (k ≡ e.0)) ⊎ ((eqb k e.0 ≡ false) × (k ≢ e.0))
        → cond (eqb k e.0) ((e.0, w) ∷ es) (e ∷ insert_entry nat_eq es k w) ≡ e ∷ (es ++ (k, w) ∷ [])
    by rest (inl p) = let same = p.1 in let below = at_most e.0 n es rises.1 in absurd (omega arith)
    by rest (inr p) = ap (λ b. cond b ((e.0, w) ∷ es) (e ∷ insert_entry nat_eq es k w)) p.0 ∙ ap (λ xs. e ∷ xs) rest

Rises-next : (low n : ℕ) (es : List (ℕ × TxnState)) (w : TxnState) → Rises low es n → Rises low (es ++ (n + 1, w) ∷ []) (n + 1)
Rises-next low n [] w rises = (omega arith, omega arith)
Rises-next low n (e ∷ es) w rises = (rises.0, Rises-next e.0 n es w rises.1)

EachSoundTxn-next : (k : ℕ) (es : List (ℕ × TxnState)) → EachSoundTxn es → EachSoundTxn (es ++ (k, fresh_txn) ∷ [])
EachSoundTxn-next k [] txns = (record { few = omega arith; held = tt }, tt)
EachSoundTxn-next k (e ∷ es) txns = (txns.0, EachSoundTxn-next k es txns.1)

pub holder_of-next : (k : ℕ) (r : Place) (es : List (ℕ × TxnState)) → holder_of r (es ++ (k, fresh_txn) ∷ []) ≡ holder_of r es
holder_of-next k r [] = refl
holder_of-next k r (e ∷ es) = ap (λ h. cond (is_among r e.1.rows) (Some e.0) h) (holder_of-next k r es)

OneHolder-next : (k : ℕ) (es : List (ℕ × TxnState)) → OneHolder es → OneHolder (es ++ (k, fresh_txn) ∷ [])
OneHolder-next k [] one = (λ r among. refl, tt)
OneHolder-next k (e ∷ es) one = (λ r among. holder_of-next k r es ∙ one.0 r among, OneHolder-next k es one.1)

pub IsSoundTable-next : (t : TableValue) → length t.active < TXNS_MAX → IsSoundTable t → IsSoundTable (with_next t)
IsSoundTable-next t room sound = record {
  few = omega (arith, length-append t.active ((t.begun + 1, fresh_txn) ∷ []));
  rising = Rises-next 0 t.begun t.active fresh_txn sound.rising;
  txns = EachSoundTxn-next (t.begun + 1) t.active sound.txns;
  one_holder = OneHolder-next (t.begun + 1) t.active sound.one_holder;
}

-- ---- the end of a transaction

length-without : (txn : ℕ) (es : List (ℕ × TxnState)) → length (without txn es) ≤ length es
length-without txn [] = omega arith
length-without txn (e ∷ es) = by (eqb txn e.0) (length-without txn es)
  where
    by : (b : Bool) → length (without txn es) ≤ length es → length (cond b es (e ∷ without txn es)) ≤ length (e ∷ es)
    by true ih = omega arith
    by false ih = omega arith

Rises-lower : (low low' high : ℕ) (es : List (ℕ × TxnState)) → low ≤ low' → Rises low' es high → Rises low es high
Rises-lower low low' high [] h rises = omega arith
Rises-lower low low' high (e ∷ es) h rises = let first = rises.0 in (omega arith, rises.1)

Rises-without : (low high txn : ℕ) (es : List (ℕ × TxnState)) → Rises low es high → Rises low (without txn es) high
Rises-without low high txn [] rises = rises
Rises-without low high txn (e ∷ es) rises = by (eqb txn e.0) (Rises-without e.0 high txn es rises.1)
  where
    by : (b : Bool) → Rises e.0 (without txn es) high → Rises low (cond b es (e ∷ without txn es)) high
    by true ih = let first = rises.0 in Rises-lower low e.0 high es (omega arith) rises.1
    by false ih = (rises.0, ih)

EachSoundTxn-without : (txn : ℕ) (es : List (ℕ × TxnState)) → EachSoundTxn es → EachSoundTxn (without txn es)
EachSoundTxn-without txn [] txns = tt
EachSoundTxn-without txn (e ∷ es) txns = by (eqb txn e.0) (EachSoundTxn-without txn es txns.1)
  where
    by : (b : Bool) → EachSoundTxn (without txn es) → EachSoundTxn (cond b es (e ∷ without txn es))
    by true ih = txns.1
    by false ih = (txns.0, ih)

none-without : (txn : ℕ) (r : Place) (es : List (ℕ × TxnState)) → holder_of r es ≡ None → holder_of r (without txn es) ≡ None
none-without txn r [] none = refl
none-without txn r (e ∷ es) none = by (none-without txn r es) (eqb txn e.0) (is_among r e.1.rows) refl none
  where
    by : (holder_of r es ≡ None → holder_of r (without txn es) ≡ None) → (b a : Bool) → is_among r e.1.rows ≡ a → cond a (Some e.0) (holder_of r es) ≡ None
        → holder_of r (cond b es (e ∷ without txn es)) ≡ None
    by rest b true among n = absurd cc
    by rest true false among n = n
    by rest false false among n = ap (λ a. cond a (Some e.0) (holder_of r (without txn es))) among ∙ rest n

OneHolder-without : (txn : ℕ) (es : List (ℕ × TxnState)) → OneHolder es → OneHolder (without txn es)
OneHolder-without txn [] one = tt
OneHolder-without txn (e ∷ es) one = by (eqb txn e.0) (OneHolder-without txn es one.1)
  where
    by : (b : Bool) → OneHolder (without txn es) → OneHolder (cond b es (e ∷ without txn es))
    by true ih = one.1
    by false ih = (λ r among. none-without txn r es (one.0 r among), ih)

pub IsSoundTable-without : (t : TableValue) (txn : ℕ) → IsSoundTable t → IsSoundTable (record t { active = without txn t.active })
IsSoundTable-without t txn sound =
    let shorter = length-without txn t.active in
    let before = sound.few in
    record {
      few = omega arith;
      rising = Rises-without 0 t.begun txn t.active sound.rising;
      txns = EachSoundTxn-without txn t.active sound.txns;
      one_holder = OneHolder-without txn t.active sound.one_holder;
    }

-- ---- a change of one transaction's state

length-set : (txn : ℕ) (es : List (ℕ × TxnState)) (w' : TxnState) → length (set_value (nat_eq txn) es w') ≡ length es
length-set txn [] w' = refl
length-set txn (e ∷ es) w' = by (length-set txn es w') (eqb txn e.0)
  where
    by : length (set_value (nat_eq txn) es w') ≡ length es → (b : Bool) → length (cond b ((e.0, w') ∷ es) (e ∷ set_value (nat_eq txn) es w')) ≡ length (e ∷ es)
    by rest true = refl
    by rest false = omega arith

Rises-set : (low high txn : ℕ) (es : List (ℕ × TxnState)) (w' : TxnState) → Rises low es high → Rises low (set_value (nat_eq txn) es w') high
Rises-set low high txn [] w' rises = rises
Rises-set low high txn (e ∷ es) w' rises = by (Rises-set e.0 high txn es w' rises.1) (eqb txn e.0)
  where
    by : Rises e.0 (set_value (nat_eq txn) es w') high → (b : Bool) → Rises low (cond b ((e.0, w') ∷ es) (e ∷ set_value (nat_eq txn) es w')) high
    by rest true = rises
    by rest false = (rises.0, rest)

EachSoundTxn-set : (txn : ℕ) (es : List (ℕ × TxnState)) (w' : TxnState) → IsSoundTxn w' → EachSoundTxn es → EachSoundTxn (set_value (nat_eq txn) es w')
EachSoundTxn-set txn [] w' is txns = tt
EachSoundTxn-set txn (e ∷ es) w' is txns = by (EachSoundTxn-set txn es w' is txns.1) (eqb txn e.0)
  where
    by : EachSoundTxn (set_value (nat_eq txn) es w') → (b : Bool) → EachSoundTxn (cond b ((e.0, w') ∷ es) (e ∷ set_value (nat_eq txn) es w'))
    by rest true = (is, txns.1)
    by rest false = (txns.0, rest)

pub state_is : (txn : ℕ) (es : List (ℕ × TxnState)) (w : TxnState) → lookup (nat_eq txn) es ≡ Some w → EachSoundTxn es → IsSoundTxn w
state_is txn [] w here txns = absurd cc
state_is txn (e ∷ es) w here txns = by (λ h. state_is txn es w h txns.1) (eqb txn e.0) here
  where
    by : (lookup (nat_eq txn) es ≡ Some w → IsSoundTxn w) → (b : Bool) → cond b (Some e.1) (lookup (nat_eq txn) es) ≡ Some w → IsSoundTxn w
    by rest true h = let same : e.1 ≡ w = cc in subst IsSoundTxn same txns.0
    by rest false h = rest h

-- nobody holds the row yet, where the new state does not hold it either
none-set : (txn : ℕ) (q : Place) (es : List (ℕ × TxnState)) (w' : TxnState) → is_among q w'.rows ≡ false → holder_of q es ≡ None
    → holder_of q (set_value (nat_eq txn) es w') ≡ None
none-set txn q [] w' not_new none = refl
none-set txn q (e ∷ es) w' not_new none = by (none-set txn q es w' not_new) (eqb txn e.0) (is_among q e.1.rows) refl none
  where
    by : (holder_of q es ≡ None → holder_of q (set_value (nat_eq txn) es w') ≡ None) → (b a : Bool) → is_among q e.1.rows ≡ a
        → cond a (Some e.0) (holder_of q es) ≡ None → holder_of q (cond b ((e.0, w') ∷ es) (e ∷ set_value (nat_eq txn) es w')) ≡ None
    by rest b true among n = absurd cc
    by rest true false among n = ap (λ a. cond a (Some e.0) (holder_of q es)) not_new ∙ n
    by rest false false among n = ap (λ a. cond a (Some e.0) (holder_of q (set_value (nat_eq txn) es w'))) among ∙ rest n

not_true : (b : Bool) → (b ≡ true → ⊥) → b ≡ false
not_true true h = absurd (h refl)
not_true false h = refl

-- the new state holds at most one row more, which nobody else holds
OneHolder-set : (low high txn : ℕ) (r : Place) (es : List (ℕ × TxnState)) (w w' : TxnState) → Rises low es high → lookup (nat_eq txn) es ≡ Some w
    → ((q : Place) → is_among q w'.rows ≡ true → (is_among q w.rows ≡ true) ⊎ (q ≡ r))
    → ((k : ℕ) → holder_of r es ≡ Some k → k ≡ txn) → OneHolder es → OneHolder (set_value (nat_eq txn) es w')
OneHolder-set low high txn r [] w w' rises here more own one = tt
OneHolder-set low high txn r (e ∷ es) w w' rises here more own one = by (λ h o. OneHolder-set e.0 high txn r es w w' rises.1 h more o one.1) (eqb_tells txn e.0)
  where
    P : Bool → Type 0
    P b = OneHolder (cond b ((e.0, w') ∷ es) (e ∷ set_value (nat_eq txn) es w'))

    found : (b : Bool) → eqb txn e.0 ≡ b → cond b (Some e.1) (lookup (nat_eq txn) es) ≡ Some w
    found b is = subst (λ x. cond x (Some e.1) (lookup (nat_eq txn) es) ≡ Some w) is here

    -- in this transaction: no later one holds the row r
    later : txn ≡ e.0 → (o : Option ℕ) → holder_of r es ≡ o → o ≡ None
    later same None h = refl
    later same (Some k) h = at_head (is_among r e.1.rows) refl
      where
        above : e.0 < k
        above = holder_above e.0 high r es k rises.1 h

        at_head : (b : Bool) → is_among r e.1.rows ≡ b → Some k ≡ None
        at_head true among = let none = one.0 r among in absurd cc
        at_head false among = let is = own k (ap (λ b. cond b (Some e.0) (holder_of r es)) among ∙ h) in let over = above in absurd (omega arith)

    head : txn ≡ e.0 → e.1 ≡ w → (q : Place) → (is_among q w.rows ≡ true) ⊎ (q ≡ r) → holder_of q es ≡ None
    head same its q (inl among) = one.0 q (ap (λ (x : TxnState). is_among q x.rows) its ∙ among)
    head same its q (inr is) = ap (λ x. holder_of x es) is ∙ later same (holder_of r es) refl

    -- in an earlier transaction: it does not hold the row r
    apart : txn ≢ e.0 → is_among r e.1.rows ≡ true → ⊥
    apart ne among = ne (sym (own e.0 (ap (λ b. cond b (Some e.0) (holder_of r es)) among)))

    kept : txn ≢ e.0 → lookup (nat_eq txn) es ≡ Some w → (q : Place) → is_among q e.1.rows ≡ true → holder_of q (set_value (nat_eq txn) es w') ≡ None
    kept ne h q among = none-set txn q es w' (not_true (is_among q w'.rows) (λ new. split (more q new))) (one.0 q among)
      where
        split : (is_among q w.rows ≡ true) ⊎ (q ≡ r) → ⊥
        split (inl had) = let free = not_among txn w q es h (one.0 q among) in absurd cc
        split (inr is) = apart ne (ap (λ x. is_among x e.1.rows) (sym is) ∙ among)

    by : (lookup (nat_eq txn) es ≡ Some w → ((k : ℕ) → holder_of r es ≡ Some k → k ≡ txn) → OneHolder (set_value (nat_eq txn) es w'))
        → ((eqb txn e.0 ≡ true) × (txn ≡ e.0)) ⊎ ((eqb txn e.0 ≡ false) × (txn ≢ e.0)) → P (eqb txn e.0)
    by rest (inl p) = let its : e.1 ≡ w = (let h = found true p.0 in cc) in subst P (sym p.0) (λ q new. head p.1 its q (more q new), one.1)
    by rest (inr p) = subst P (sym p.0) (
      kept p.1 (found false p.0),
      rest (found false p.0) (λ k h. own k (ap (λ b. cond b (Some e.0) (holder_of r es)) (not_true (is_among r e.1.rows) (apart p.1)) ∙ h)),
    )

pub IsSoundTable-set : (t : TableValue) (txn : ℕ) (r : Place) (w w' : TxnState) → lookup (nat_eq txn) t.active ≡ Some w → IsSoundTxn w'
    → ((q : Place) → is_among q w'.rows ≡ true → (is_among q w.rows ≡ true) ⊎ (q ≡ r))
    → ((k : ℕ) → holder_of r t.active ≡ Some k → k ≡ txn) → IsSoundTable t → IsSoundTable (record t { active = set_value (nat_eq txn) t.active w' })
IsSoundTable-set t txn r w w' here is more own sound =
    let same = length-set txn t.active w' in
    let before = sound.few in
    record {
      few = omega arith;
      rising = Rises-set 0 t.begun txn t.active w' sound.rising;
      txns = EachSoundTxn-set txn t.active w' is sound.txns;
      one_holder = OneHolder-set 0 t.begun txn r t.active w w' sound.rising here more own sound.one_holder;
    }

-- ---- the state after a change is noted, and after one is taken off

AllHeld-more : (rows : List Place) (r : Place) (cs : List ChangeValue) → AllHeld rows cs → AllHeld (with_rid r rows) cs
AllHeld-more rows r [] held = tt
AllHeld-more rows r (c ∷ cs) held = (among_kept c.rid r rows held.0, AllHeld-more rows r cs held.1)

AllHeld-append : (rows : List Place) (c : ChangeValue) (cs : List ChangeValue) → is_among c.rid rows ≡ true → AllHeld rows cs → AllHeld rows (cs ++ c ∷ [])
AllHeld-append rows c [] new held = (new, tt)
AllHeld-append rows c (d ∷ cs) new held = (held.0, AllHeld-append rows c cs new held.1)

AllHeld-take : (n : ℕ) (rows : List Place) (cs : List ChangeValue) → AllHeld rows cs → AllHeld rows (take n cs)
AllHeld-take zero rows cs held = tt
AllHeld-take (suc n) rows [] held = tt
AllHeld-take (suc n) rows (c ∷ cs) held = (held.0, AllHeld-take n rows cs held.1)

pub IsSoundTxn-noted : (c : ChangeValue) (w : TxnState) → length w.changes < CHANGES_MAX → IsSoundTxn w → IsSoundTxn (change_noted c w)
IsSoundTxn-noted c w room is = record {
  few = omega (arith, length-append w.changes (c ∷ []));
  held = AllHeld-append (with_rid c.rid w.rows) c w.changes (among_new c.rid w.rows) (AllHeld-more w.rows c.rid w.changes is.held);
}

pub IsSoundTxn-without_last : (w : TxnState) → IsSoundTxn w → IsSoundTxn (without_last w)
IsSoundTxn-without_last w is =
    let before = is.few in
    record { few = omega (arith, length-take (length w.changes - 1) w.changes); held = AllHeld-take (length w.changes - 1) w.rows w.changes is.held }

holder_of-rows : (txn : ℕ) (q : Place) (es : List (ℕ × TxnState)) (w w' : TxnState) → lookup (nat_eq txn) es ≡ Some w → w'.rows ≡ w.rows
    → holder_of q (set_value (nat_eq txn) es w') ≡ holder_of q es
holder_of-rows txn q [] w w' here same = refl
holder_of-rows txn q (e ∷ es) w w' here same = by (λ h. holder_of-rows txn q es w w' h same) (eqb txn e.0) here
  where
    by : (lookup (nat_eq txn) es ≡ Some w → holder_of q (set_value (nat_eq txn) es w') ≡ holder_of q es)
        → (b : Bool) → cond b (Some e.1) (lookup (nat_eq txn) es) ≡ Some w
        → holder_of q (cond b ((e.0, w') ∷ es) (e ∷ set_value (nat_eq txn) es w')) ≡ cond (is_among q e.1.rows) (Some e.0) (holder_of q es)
    by rest true h = let its : e.1 ≡ w = cc in ap (λ (rs : List Place). cond (is_among q rs) (Some e.0) (holder_of q es)) (same
        ∙ ap (λ (x : TxnState). x.rows) (sym its))
    by rest false h = ap (λ o. cond (is_among q e.1.rows) (Some e.0) o) (rest h)

-- a state whose rows stay
OneHolder-rows : (txn : ℕ) (es : List (ℕ × TxnState)) (w w' : TxnState) → lookup (nat_eq txn) es ≡ Some w → w'.rows ≡ w.rows → OneHolder es
    → OneHolder (set_value (nat_eq txn) es w')
OneHolder-rows txn [] w w' here same one = tt
OneHolder-rows txn (e ∷ es) w w' here same one = by (λ h. OneHolder-rows txn es w w' h same one.1) (λ h q. holder_of-rows txn q es w w' h same)
    (eqb txn e.0) here
  where
    by : (lookup (nat_eq txn) es ≡ Some w → OneHolder (set_value (nat_eq txn) es w'))
        → (lookup (nat_eq txn) es ≡ Some w → (q : Place) → holder_of q (set_value (nat_eq txn) es w') ≡ holder_of q es)
        → (b : Bool) → cond b (Some e.1) (lookup (nat_eq txn) es) ≡ Some w → OneHolder (cond b ((e.0, w') ∷ es) (e ∷ set_value (nat_eq txn) es w'))
    by rest holders true h = let its : e.1 ≡ w = cc in (λ q among. one.0 q (ap (is_among q) (ap (λ (x : TxnState). x.rows) its ∙ sym same) ∙ among), one.1)
    by rest holders false h = (λ q among. holders h q ∙ one.0 q among, rest h)

pub IsSoundTable-rows : (t : TableValue) (txn : ℕ) (w w' : TxnState) → lookup (nat_eq txn) t.active ≡ Some w → IsSoundTxn w' → w'.rows ≡ w.rows → IsSoundTable t
    → IsSoundTable (record t { active = set_value (nat_eq txn) t.active w' })
IsSoundTable-rows t txn w w' here is same sound =
    let long = length-set txn t.active w' in
    let before = sound.few in
    record {
      few = omega arith;
      rising = Rises-set 0 t.begun txn t.active w' sound.rising;
      txns = EachSoundTxn-set txn t.active w' is sound.txns;
      one_holder = OneHolder-rows txn t.active w w' here same sound.one_holder;
    }

-- ---- the fields of a table

abbrev pub table : List (ℕ × TxnState) → ℕ → TableValue
table active begun = record { active = active; begun = begun }

pub IsTableKept-next : (t : TableValue) (held : List Place) → length t.active < TXNS_MAX → IsTableKept t held → IsTableKept (with_next t) held
IsTableKept-next t held room kept = record {
  sound = IsSoundTable-next t room kept.sound;
  held_rows = λ q. kept.held_rows q ∙ sym (ap is_some (holder_of-next (t.begun + 1) q t.active));
}

pub IsTableKept-without : (t : TableValue) (held : List Place) (txn : ℕ) (s : TxnState) → lookup (nat_eq txn) t.active ≡ Some s → IsTableKept t held
    → IsTableKept (table (without txn t.active) t.begun) (filter (λ r. not (is_among r s.rows)) held)
IsTableKept-without t held txn s here kept = record {
  sound = IsSoundTable-without t txn kept.sound;
  held_rows = AreHeldRows-without txn held t.active s kept.sound.one_holder here kept.held_rows;
}

pub IsTableKept-ended : (t : TableValue) (held : List Place) (txn : ℕ) (s : TxnState) (last : Bool) → lookup (nat_eq txn) t.active ≡ Some s
    → (last ≡ true → without txn t.active ≡ []) → IsTableKept t held
    → IsTableKept (table (without txn t.active) t.begun) (cond last [] (filter (λ r. not (is_among r s.rows)) held))
IsTableKept-ended t held txn s false here none kept = IsTableKept-without t held txn s here kept
IsTableKept-ended t held txn s true here none kept = record {
  sound = (IsTableKept-without t held txn s here kept).sound;
  held_rows = λ q. sym (ap (λ es. is_some (holder_of q es)) (none refl));
}

pub IsTableKept-noted : (t : TableValue) (held : List Place) (txn : ℕ) (c : ChangeValue) (s : TxnState) → lookup (nat_eq txn) t.active ≡ Some s
    → length s.changes < CHANGES_MAX → ((k : ℕ) → holder_of c.rid t.active ≡ Some k → k ≡ txn)
    → IsTableKept t held → IsTableKept (table (set_value (nat_eq txn) t.active (change_noted c s)) t.begun) (with_rid c.rid held)
IsTableKept-noted t held txn c s here room own kept = record {
  sound = IsSoundTable-set t txn c.rid s (change_noted c s) here (IsSoundTxn-noted c s room (state_is txn t.active s here kept.sound.txns)) (λ q among.
      among_more q c.rid s.rows among) own kept.sound;
  held_rows = AreHeldRows-noted txn c held t.active s here kept.held_rows;
}

pub IsTableKept-without_last : (t : TableValue) (held : List Place) (txn : ℕ) (s : TxnState) → lookup (nat_eq txn) t.active ≡ Some s → IsTableKept t held
    → IsTableKept (table (set_value (nat_eq txn) t.active (without_last s)) t.begun) held
IsTableKept-without_last t held txn s here kept = record {
  sound = IsSoundTable-rows t txn s (without_last s) here (IsSoundTxn-without_last s (state_is txn t.active s here kept.sound.txns)) refl kept.sound;
  held_rows = λ q. kept.held_rows q ∙ sym (ap is_some (holder_of-rows txn q t.active s (without_last s) here refl));
}

pub IsTableKept-put_at : (p : Progress) (n : ℕ) (t : TableValue) (held : List Place) (txn : ℕ) (s : TxnState) → lookup (nat_eq txn) t.active ≡ Some s
    → IsTableKept t held
    → IsTableKept (table (set_value (nat_eq txn) t.active (put_at p n s)) t.begun) held
IsTableKept-put_at p n t held txn s here kept =
    let is = state_is txn t.active s here kept.sound.txns in
    record {
      sound = IsSoundTable-rows t txn s (put_at p n s) here (record { few = is.few; held = is.held }) refl kept.sound;
      held_rows = λ q. kept.held_rows q ∙ sym (ap is_some (holder_of-rows txn q t.active s (put_at p n s) here refl));
    }
