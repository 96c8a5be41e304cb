-- What a change of one transaction shows in the table.
use Rattle.std.proofs.Common.{◌≡◌, ℕ, ◌<◌, Bool, true, false, cond, not, List, [], ◌∷◌, ◌++◌, length, take, Option, Some, None, is_some, nat_eq, nat_le, ◌==◌}
use Rattle.std.proofs.Common.{refl, sym, ap, subst, ◌∙◌, eqb, leb-false}
use Rattle.std.proofs.lemmas.Bool.{eqb-true}
use Rattle.std.proofs.Math.Seq.{take-length, take-append_seam}
use Rattle.std.specs.Option.{option_or}
use Rattle.std.specs.Map.{lookup, set_value}
use Rattle.record_values.specs.Values.{Place, is_among}
use Rattle.records.specs.ChangeValue.{ChangeValue}
use Rattle.records.specs.declared.change.TheConstants.{CHANGES_MAX}
use Rattle.record_values.specs.declared.error.Error.TheVariants.{NoSuchTxn, TooManyChanges, RowBusy}
use Rattle.txn_table.specs.Table.{TxnState, TableValue, with_rid, holder_of, with_state, change_noted, without_last, put_at, is_other, full_refusal}
use Rattle.txn_table.specs.Table.{busy_refusal, touch_refusal}
use Rattle.txn_table.specs.declared.progress.Progress.{Progress}
use Rattle.txn_table.specs.Sound.{IsTableKept, Rises}
use Rattle.txn_table.proofs.Lookups.{among_own, not_among, set_value-with_state, set_value-same, with_state-unknown}
use Rattle.txn_table.proofs.Keeps.{table, IsTableKept-noted, IsTableKept-put_at, IsTableKept-without_last}

has_room : (n : ℕ) → nat_le CHANGES_MAX n ≡ false → n < CHANGES_MAX
has_room n e = leb-false CHANGES_MAX n e

own_row : (txn k : ℕ) → not (k == txn) ≡ false → k ≡ txn
own_row txn k e = by (eqb k txn) (eqb-true k txn) e
  where
    by : (b : Bool) → (b ≡ true → k ≡ txn) → not b ≡ false → k ≡ txn
    by true is e = is refl
    by false is e = absurd cc

not_busy : (txn : ℕ) (holder : Option ℕ) → busy_refusal txn holder ≡ None → (k : ℕ) → holder ≡ Some k → k ≡ txn
not_busy txn holder none = by holder refl (is_other txn holder) refl none
  where
    by : (o : Option ℕ) → holder ≡ o → (b : Bool) → is_other txn o ≡ b → cond b (Some RowBusy) None ≡ None → (k : ℕ) → holder ≡ Some k → k ≡ txn
    by o is true other none k h = absurd cc
    by None is false other none k h = absurd cc
    by (Some j) is false other none k h = let same : j ≡ k = cc in sym same ∙ own_row txn j other

-- a change that nothing refuses
pub not_refused : (txn : ℕ) (holder : Option ℕ) (s : TxnState) → option_or (full_refusal (Some s)) (busy_refusal txn holder) ≡ None
    → (length s.changes < CHANGES_MAX) × ((k : ℕ) → holder ≡ Some k → k ≡ txn)
not_refused txn holder s none = by (nat_le CHANGES_MAX (length s.changes)) refl none
  where
    by : (b : Bool) → nat_le CHANGES_MAX (length s.changes) ≡ b → option_or (cond b (Some TooManyChanges) None) (busy_refusal txn holder) ≡ None
        → (length s.changes < CHANGES_MAX) × ((k : ℕ) → holder ≡ Some k → k ≡ txn)
    by true full none = absurd cc
    by false room none = (has_room (length s.changes) room, not_busy txn holder none)

-- a change of a transaction that isn't active is refused
pub unknown_refused : (txn : ℕ) (r : Place) (es : List (ℕ × TxnState)) → lookup (nat_eq txn) es ≡ None → touch_refusal txn r es ≡ None → ⊥
unknown_refused txn r es none accepted =
    never (sym (ap (λ (o : Option TxnState). option_or (full_refusal o) (busy_refusal txn (holder_of r es))) none) ∙ accepted)
  where
    never : Some NoSuchTxn ≡ None → ⊥
    never e = cc

-- a row that is held is the transaction's own then
pub held_is_own : (low high txn : ℕ) (r : Place) (es : List (ℕ × TxnState)) (s : TxnState) (b : Bool) → Rises low es high → lookup (nat_eq txn) es ≡ Some s
    → touch_refusal txn r es ≡ None → b ≡ is_some (holder_of r es) → b ≡ is_among r s.rows
held_is_own low high txn r es s b rises here accepted is = is ∙ by (holder_of r es) refl
  where
    by : (o : Option ℕ) → holder_of r es ≡ o → is_some o ≡ is_among r s.rows
    by None none = sym (not_among txn s r es here none)
    by (Some k) held =
        let free = not_refused txn (holder_of r es) s (ap (λ o. option_or (full_refusal o) (busy_refusal txn (holder_of r es))) (sym here) ∙ accepted) in
        sym (among_own low high txn s r es rises here (held ∙ ap Some (free.1 k held)))

pub kept_after_note : (es xs : List (ℕ × TxnState)) (held rows : List Place) (n txn : ℕ) (c : ChangeValue) (s s' : TxnState) → lookup (nat_eq txn) es ≡ Some s
    → xs ≡ set_value (nat_eq txn) es s' → s' ≡ change_noted c s → rows ≡ with_rid c.rid held
    → touch_refusal txn c.rid es ≡ None → IsTableKept (table es n) held → IsTableKept (table xs n) rows
kept_after_note es xs held rows n txn c s s' here set ok is accepted kept =
    let free = not_refused txn (holder_of c.rid es) s (ap (λ o. option_or (full_refusal o) (busy_refusal txn (holder_of c.rid es))) (sym here) ∙ accepted) in
    subst (λ (v : List (ℕ × TxnState) × List Place). IsTableKept (table v.0 n) v.1)
    (sym (λ i. ((set ∙ ap (set_value (nat_eq txn) es) ok) i, is i)))
    (IsTableKept-noted (table es n) held txn c s here free.0 free.1 kept)

pub kept_as_before : (es xs : List (ℕ × TxnState)) (held rows : List Place) (n txn : ℕ) (s s' : TxnState) → lookup (nat_eq txn) es ≡ Some s
    → xs ≡ set_value (nat_eq txn) es s' → s' ≡ s → rows ≡ held → IsTableKept (table es n) held → IsTableKept (table xs n) rows
kept_as_before es xs held rows n txn s s' here set same is kept =
    subst (λ (v : List (ℕ × TxnState) × List Place). IsTableKept (table v.0 n) v.1) (sym (λ i. ((set ∙ set_value-same txn es s s' here same) i, is i))) kept

pub kept_after_pop : (es xs : List (ℕ × TxnState)) (held : List Place) (n txn : ℕ) (s s' : TxnState) → lookup (nat_eq txn) es ≡ Some s
    → xs ≡ set_value (nat_eq txn) es s' → s' ≡ without_last s → IsTableKept (table es n) held → IsTableKept (table xs n) held
kept_after_pop es xs held n txn s s' here set is kept =
    subst (λ ys. IsTableKept (table ys n) held) (sym (set ∙ ap (set_value (nat_eq txn) es) is)) (IsTableKept-without_last (table es n) held txn s here kept)

-- what a write of one transaction's state shows
pub after_write : (f : TxnState → TxnState) (es xs : List (ℕ × TxnState)) (n txn : ℕ) (s s' : TxnState) (t : TableValue) → table es n ≡ t
    → lookup (nat_eq txn) es ≡ Some s → xs ≡ set_value (nat_eq txn) es s' → s' ≡ f s
    → table xs n ≡ record { active = with_state f txn t.active; begun = t.begun }
after_write f es xs n txn s s' t is here set made =
    ap (λ ys. table ys n) (set ∙ set_value-with_state f txn es s s' here made) ∙ ap (λ (v : TableValue). table (with_state f txn v.active) v.begun) is

-- and a write of the same state
pub after_same : (es xs : List (ℕ × TxnState)) (n txn : ℕ) (s s' : TxnState) (t : TableValue) → table es n ≡ t → lookup (nat_eq txn) es ≡ Some s
    → xs ≡ set_value (nat_eq txn) es s' → s' ≡ s → table xs n ≡ t
after_same es xs n txn s s' t is here set same = ap (λ ys. table ys n) (set ∙ set_value-same txn es s s' here same) ∙ is

pub unknown_pop : (es xs : List (ℕ × TxnState)) (n txn : ℕ) (t : TableValue) → table es n ≡ t → lookup (nat_eq txn) es ≡ None → xs ≡ es
    → table xs n ≡ record { active = with_state without_last txn t.active; begun = t.begun }
unknown_pop es xs n txn t is none same =
    ap (λ ys. table ys n) (same ∙ sym (with_state-unknown without_last txn es none))
    ∙ ap (λ (v : TableValue). table (with_state without_last txn v.active) v.begun) is

-- the places without the one that may have been added
pub take_with_rid : (r : Place) (rows : List Place) → take (length rows) (with_rid r rows) ≡ rows
take_with_rid r rows = by (is_among r rows)
  where
    by : (b : Bool) → take (length rows) (cond b rows (rows ++ r ∷ [])) ≡ rows
    by true = take-length rows
    by false = take-append_seam rows (r ∷ [])

pub kept_after_put : (p : Progress) (m : ℕ) (es xs : List (ℕ × TxnState)) (held : List Place) (n txn : ℕ) (s s' : TxnState) → lookup (nat_eq txn) es ≡ Some s
    → xs ≡ set_value (nat_eq txn) es s' → s' ≡ put_at p m s → IsTableKept (table es n) held → IsTableKept (table xs n) held
kept_after_put p m es xs held n txn s s' here set is kept =
    subst (λ ys. IsTableKept (table ys n) held) (sym (set ∙ ap (set_value (nat_eq txn) es) is)) (IsTableKept-put_at p m (table es n) held txn s here kept)

pub unknown_put : (p : Progress) (m : ℕ) (es xs : List (ℕ × TxnState)) (n txn : ℕ) (t : TableValue) → table es n ≡ t → lookup (nat_eq txn) es ≡ None → xs ≡ es
    → table xs n ≡ record { active = with_state (put_at p m) txn t.active; begun = t.begun }
unknown_put p m es xs n txn t is none same =
    ap (λ ys. table ys n) (same ∙ sym (with_state-unknown (put_at p m) txn es none))
    ∙ ap (λ (v : TableValue). table (with_state (put_at p m) txn v.active) v.begun) is
