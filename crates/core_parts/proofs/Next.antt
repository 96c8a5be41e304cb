-- The step that a transaction owes.
use Rattle.std.proofs.Common.{Bool, None, Option, Some, ap, arith, false, inl, inr, refl, subst, sym, ℕ, ◌++◌, ◌+◌, ◌-◌, ◌<◌, ◌∙◌, ◌≡◌, ◌≢◌, ◌≤◌, ◌⊎◌}
use Rattle.std.specs.FinMap.{get}
use Rattle.std.specs.Option.{option_map}
use Rattle.std.specs.Prelude.{option_and_then}
use Rattle.records.specs.declared.record.TxnAction.{TxnAction}
use Rattle.records.specs.ChangeValue.{ChangeValue}
use Rattle.record_values.specs.Maps.{set_at}
use Rattle.records.specs.Spelling.{new_row}
use Rattle.record_values.specs.declared.error.Error.{Error}
use Rattle.record_values.specs.declared.error.Error.TheVariants.{NoSuchTxn}
use Rattle.record_values.specs.declared.number.TheConstants.{LAST_NUMBER}
use Rattle.record_values.specs.declared.pair.Mark.TheVariants.{Live}
use Rattle.record_values.specs.declared.pair.Pair.{Pair}
use Rattle.records.specs.declared.record.Action.TheVariants.{OfTxn}
use Rattle.records.specs.declared.record.Part.TheVariants.{NewEntry, Slot}
use Rattle.records.specs.declared.record.TxnAction.TheVariants.{Forward}
use Rattle.model.specs.Pairs.{is_indexed, new_pair}
use Rattle.txn_table.specs.Table.{TxnState, last_change, put_at, rolls}
use Rattle.txn_table.specs.declared.progress.Progress.{Progress}
use Rattle.txn_table.specs.declared.progress.Progress.TheVariants.{OwesEntry, OwesRow, Ready}
use Rattle.marked_index.specs.Index.{pledges_used}
use Rattle.core_model.proofs.Laws.{not_none}
use Rattle.core_model.specs.Invariants.{HasShape, IsShaped}
use Rattle.core_model.specs.Logs.{one_record}
use Rattle.core_model.specs.Records.{action_of, next_action}
use Rattle.core_model.specs.Changes.{Changes, Unchanged, ◌▹◌}
use Rattle.core_model.specs.States.{Active, Made, OldMarked, Phase, RowSet, State}
use Rattle.core_model.specs.Steps as core
use Rattle.core_model.specs.Steps.{Next, after, carried_on, reserved, row_made, txn_at, with_entry, with_phase, with_places}
use Rattle.core_model.specs.Events.{Event, Refused, Standing, Stepped}
use Rattle.core_model.specs.Replies.{Owes, unknown}
use Rattle.core_parts.specs.View.{Answers, CoreValue, IsProgressOf, IsSafe, IsState, Serves, Shows}
use Rattle.core_parts.specs.Moves.{OwesOrNone, txn_shown}
use Rattle.core_parts.specs.Private.{HasNoRecord, HasRecord, entry_stepped, reserved_of, row_progress, row_stepped}
use Rattle.core_parts.proofs.Due.{made, no_number, refusal, wants_memory}
use Rattle.core_parts.proofs.Inserting.{no_txn}
use Rattle.core_parts.proofs.Leaving.{there}
use Rattle.core_parts.proofs.Moved.{at, known, listed, one}
use Rattle.core_parts.proofs.Newest.{inside, new_paid, newest_last, none_changed, phase_of, shape, shaped}
use Rattle.core_parts.proofs.Places.{reserved_within}
use Rattle.core_parts.proofs.Started.{none_rolls, phase_is}
use Rattle.core_parts.proofs.Stepped.{entry_moved, put_now, row_moved}

row_phase : (x : Progress) (phase : Phase) → x ≡ OwesRow → IsProgressOf x phase → phase ≡ OldMarked
row_phase x phase e a = subst (λ p. IsProgressOf p phase) e a

entry_phase : (x : Progress) (phase : Phase) → x ≡ OwesEntry → IsProgressOf x phase → phase ≡ RowSet
entry_phase x phase e a = subst (λ p. IsProgressOf p phase) e a

-- ---- what is owed is there
module _ (v : CoreValue) (safe : IsSafe v) (t : ℕ) (x : TxnState) (here : txn_shown v t ≡ Some x) where
  abbrev s : State
  s = safe.state

  abbrev k : Standing
  k = safe.standing

  owed_by : (x.progress ≡ OwesRow) ⊎ (x.progress ≡ OwesEntry) → last_change x ≡ None → ⊥
  owed_by owes none = by owes
    where
      empty : (txn_at s t).changes ≡ Unchanged
      empty = none_changed v s k safe.is t x here none

      made_by : (cs : Changes) (phase : Phase) → cs ≡ Unchanged → IsShaped (is_indexed s.life) cs phase → phase ≡ Made
      made_by Unchanged phase e shaped = shaped
      made_by (cs ▹ c) phase e shaped = absurd cc

      now : (txn_at s t).phase ≡ Made
      now = made_by (txn_at s t).changes (txn_at s t).phase empty (shaped v s k safe.is t x here)

      by : (x.progress ≡ OwesRow) ⊎ (x.progress ≡ OwesEntry) → ⊥
      by (inl e) = let is : OldMarked ≡ Made = sym (row_phase x.progress (txn_at s t).phase e (phase_of v s k safe.is t x here)) ∙ now in cc
      by (inr e) = let is : RowSet ≡ Made = sym (entry_phase x.progress (txn_at s t).phase e (phase_of v s k safe.is t x here)) ∙ now in cc

  module _ (c : ChangeValue) (last : last_change x ≡ Some c) where
    first : (older : Changes) × ((txn_at s t).changes ≡ older ▹ c)
    first = newest_last v s k safe.is t x here c last

    inside_by : c.rid.page < v.heap.pages
    inside_by = inside v s k safe.is t x here c first.0 first.1

    paid_by : (p : Pair) → new_pair (is_indexed v.life) c ≡ Some p → pledges_used (get v.index.entries p) ≤ x.reserved
    paid_by = new_paid v s k safe.is t x here c first.0 first.1

-- ---- the step
module _ (v : CoreValue) (s : State) (k : Standing) (st : IsState v s k) (t : ℕ) (x : TxnState) (here : txn_shown v t ≡ Some x) (c : ChangeValue)
    (last : last_change x ≡ Some c) where
  abbrev h : Shows v s k
  h = st.shown

  abbrev indexed : Bool
  indexed = is_indexed v.life

  safe : IsSafe v
  safe = record { state = s; standing = k; is = st }

  older : (cs : Changes) × ((txn_at s t).changes ≡ cs ▹ c)
  older = newest_last v s k st t x here c last

  same_index : is_indexed s.life ≡ indexed
  same_index = ap is_indexed h.life

  same_places : reserved_of (txn_shown v t) ≡ x.reserved
  same_places = ap reserved_of here

  not_rolling : rolls x.progress ≡ false → (txn_at s t).rolling ≡ false
  not_rolling e = ap (λ (y : Active). y.rolling) (at v s k h t x here) ∙ (one v s k h t x here).2.rolling ∙ e

  module _ (owes : x.progress ≡ OwesRow) where
    is_row : (txn_at s t).phase ≡ OldMarked
    is_row = row_phase x.progress _ owes (phase_of v s k st t x here)

    abbrev row_value : CoreValue
    row_value = row_stepped v t (row_progress (new_pair indexed c)) c.rid (new_row c.rows) (Forward Slot c)

    abbrev row_state : State
    row_state = record (carried_on s t (txn_at s t) (older.0 ▹ c) OldMarked) { pledges = with_places s t 0 s.entries }

    row_is : after s (Next t) ≡ row_state
    row_is = λ i. record (carried_on s t (txn_at s t) (older.1 i) (is_row i))
        { pledges = with_places s t 0 (carried_on s t (txn_at s t) (older.1 i) (is_row i)).entries }

    row_shown : Shows row_value (after s (Next t)) (record k { made = k.made + 1 })
    row_shown = subst (λ z. Shows row_value z (record k { made = k.made + 1 })) (sym row_is)
        (row_moved v s k h t x here (put_at (row_progress (new_pair indexed c)) (reserved_of (txn_shown v t)) x)
        (with_phase (txn_at s t) (row_made (new_pair (is_indexed s.life) c)))
        (record {
          changes = listed v s k h t x here;
          phase = subst (λ b. IsProgressOf (row_progress (new_pair indexed c)) (row_made (new_pair b c))) (sym same_index) (phase_is (new_pair indexed c));
          rolling = not_rolling (ap rolls owes) ∙ sym (none_rolls (new_pair indexed c));
        }) _ (put_now v.txns.active t x here _ _) row_value.outbox c.rid (new_row c.rows) same_places)

    row_action : action_of s (Next t) ≡ Some (OfTxn t (Forward Slot c))
    row_action = λ i. next_action t (older.1 i) (is_row i)

    row_answers : v.last < LAST_NUMBER → Answers v s k (Event.Step t) Stepped row_value
    row_answers numbered = made v s k h (Event.Step t) (known v s k h t x here) (inl is_row, not_rolling (ap rolls owes)) refl Stepped (Next t) (refl, refl)
        (λ n. n) (λ n. numbered) row_value row_shown (ap (λ o. v.outbox ++ one_record v.last o) (sym row_action))

  module _ (owes : x.progress ≡ OwesEntry) (p : Pair) (pair : new_pair indexed c ≡ Some p) where
    is_entry : (txn_at s t).phase ≡ RowSet
    is_entry = entry_phase x.progress _ owes (phase_of v s k st t x here)

    abbrev used : ℕ
    used = pledges_used (get v.index.entries p)

    abbrev entry_value : CoreValue
    entry_value = entry_stepped v t Ready p Live (Forward NewEntry c)

    abbrev entry_state : State
    entry_state = record s {
      entries = set_at s.entries p (Some Live);
      txns = core.with_txn s t (with_phase (txn_at s t) Made);
      pledges = with_places s t 0 (set_at s.entries p (Some Live));
    }

    pair_is : new_pair (is_indexed s.life) c ≡ Some p
    pair_is = ap (λ b. new_pair b c) same_index ∙ pair

    entry_is : after s (Next t) ≡ entry_state
    entry_is =
        (λ i. record (carried_on s t (txn_at s t) (older.1 i) (is_entry i))
        { pledges = with_places s t 0 (carried_on s t (txn_at s t) (older.1 i) (is_entry i)).entries })
        ∙ (λ i. record s {
          entries = with_entry s.entries (pair_is i) Live;
          txns = core.with_txn s t (with_phase (txn_at s t) Made);
          pledges = with_places s t 0 (with_entry s.entries (pair_is i) Live);
        })

    enough : used ≤ x.reserved
    enough = paid_by v safe t x here c last p pair

    entry_shown : Shows entry_value (after s (Next t)) (record k { made = k.made + 1 })
    entry_shown = subst (λ z. Shows entry_value z (record k { made = k.made + 1 })) (sym entry_is)
        (entry_moved v s k h t x here (put_at Ready (reserved_of (txn_shown v t) - used) x) (with_phase (txn_at s t) Made)
        (record { changes = listed v s k h t x here; phase = refl; rolling = not_rolling (ap rolls owes) })
        _ (put_now v.txns.active t x here _ _) entry_value.outbox p Live (ap (λ n. n - used) same_places) enough (reserved_within v t x here safe))

    entry_action : action_of s (Next t) ≡ Some (OfTxn t (Forward NewEntry c))
    entry_action = λ i. next_action t (older.1 i) (is_entry i)

    entry_answers : v.last < LAST_NUMBER → Answers v s k (Event.Step t) Stepped entry_value
    entry_answers numbered = made v s k h (Event.Step t) (known v s k h t x here) (inr is_entry, not_rolling (ap rolls owes)) refl Stepped (Next t) (refl, refl)
        (λ n. n) (λ n. numbered) entry_value entry_shown (ap (λ o. v.outbox ++ one_record v.last o) (sym entry_action))

  -- ---- nothing but a number or memory refuses it
  proper_by : (x.progress ≡ OwesRow) ⊎ (x.progress ≡ OwesEntry) → Owes (txn_at s t)
  proper_by (inl owes) = (inl (row_phase x.progress _ owes (phase_of v s k st t x here)), not_rolling (ap rolls owes))
  proper_by (inr owes) = (inr (entry_phase x.progress _ owes (phase_of v s k st t x here)), not_rolling (ap rolls owes))

  makes_by : (x.progress ≡ OwesRow) ⊎ (x.progress ≡ OwesEntry) → action_of s (Next t) ≢ None
  makes_by (inl owes) none = not_none (λ i. next_action t (older.1 i) (row_phase x.progress _ owes (phase_of v s k st t x here) i)) none
  makes_by (inr owes) none = not_none (λ i. next_action t (older.1 i) (entry_phase x.progress _ owes (phase_of v s k st t x here) i)) none

  spent_answers : (x.progress ≡ OwesRow) ⊎ (x.progress ≡ OwesEntry) → LAST_NUMBER ≤ v.last → Answers v s k (Event.Step t) (Refused Error.Exhausted) v
  spent_answers owes le = no_number v s k h (Event.Step t) (known v s k h t x here) (proper_by owes) refl Stepped (Next t) (refl, refl) (λ n. n)
      (makes_by owes) le

  wants_answers : (x.progress ≡ OwesRow) ⊎ (x.progress ≡ OwesEntry) → v.last < LAST_NUMBER → Answers v s k (Event.Step t) (Refused Error.NoMemory) v
  wants_answers owes numbered = wants_memory v s k h (Event.Step t) (known v s k h t x here) (proper_by owes) refl Stepped (Next t) (refl, refl) (λ n. n) (λ n.
      numbered) (inl (makes_by owes))

-- ---- whatever state the core stands for
owed_newest : (v : CoreValue) → IsSafe v → (t : ℕ) (x : TxnState) → txn_shown v t ≡ Some x → (x.progress ≡ OwesRow) ⊎ (x.progress ≡ OwesEntry)
    → (c : ChangeValue) × (last_change x ≡ Some c)
owed_newest v safe t x here owes = by (last_change x) refl
  where
    by : (o : Option ChangeValue) → last_change x ≡ o → (c : ChangeValue) × (last_change x ≡ Some c)
    by None e = absurd (owed_by v safe t x here owes e)
    by (Some c) e = (c, e)

module _ (v : CoreValue) (t : ℕ) (asked : OwesOrNone (txn_shown v t)) where
  pub next_refused : (error : Error) → HasNoRecord v t error → Serves v (Event.Step t) (Refused error) v
  next_refused error (inl why) s k is = subst (λ n. Answers v s k (Event.Step t) (Refused n) v) (sym why.0)
      (refusal v s k (Event.Step t) NoSuchTxn is.shown (unknown (no_txn v s k is.shown t why.1)))
  next_refused error (inr why) s k is =
      let x = there v t why.1 in
      let owes = subst OwesOrNone x.1 asked in
      let c = owed_newest v (record { state = s; standing = k; is = is }) t x.0 x.1 owes in
      subst (λ n. Answers v s k (Event.Step t) (Refused n) v) (sym why.0) (spent_answers v s k is t x.0 x.1 c.0 c.1 owes why.2)

  module _ (has : HasRecord v t) where
    pub next_wants : (error : Error) (v' : CoreValue) → error ≡ Error.NoMemory → v' ≡ v → Serves v (Event.Step t) (Refused error) v'
    next_wants error v' e same s k is =
        let x = there v t has.active in
        let owes = subst OwesOrNone x.1 asked in
        let c = owed_newest v (record { state = s; standing = k; is = is }) t x.0 x.1 owes in
        subst (λ w. Answers v s k (Event.Step t) (Refused error) w) (sym same)
        (subst (λ n. Answers v s k (Event.Step t) (Refused n) v) (sym e) (wants_answers v s k is t x.0 x.1 c.0 c.1 owes has.numbered))

    pub row_served : (x : TxnState) (c : ChangeValue) → txn_shown v t ≡ Some x → last_change x ≡ Some c → x.progress ≡ OwesRow → (v' : CoreValue)
        → v' ≡ row_stepped v t (row_progress (new_pair (is_indexed v.life) c)) c.rid (new_row c.rows) (Forward Slot c) → Serves v (Event.Step t) Stepped v'
    row_served x c here last owes v' same s k is = subst (λ w. Answers v s k (Event.Step t) Stepped w) (sym same)
        (row_answers v s k is t x here c last owes has.numbered)

    pub entry_served : (x : TxnState) (c : ChangeValue) (p : Pair) → txn_shown v t ≡ Some x → last_change x ≡ Some c → x.progress ≡ OwesEntry
        → new_pair (is_indexed v.life) c ≡ Some p → (v' : CoreValue) → v' ≡ entry_stepped v t Ready p Live (Forward NewEntry c)
        → Serves v (Event.Step t) Stepped v'
    entry_served x c p here last owes pair v' same s k is =
        subst (λ w. Answers v s k (Event.Step t) Stepped w) (sym same) (entry_answers v s k is t x here c last owes p pair has.numbered)

-- ---- what the code needs to know
pub owed_inside : (v : CoreValue) (t : ℕ) (x : TxnState) (c : ChangeValue) → txn_shown v t ≡ Some x → last_change x ≡ Some c → IsSafe v
    → c.rid.page < v.heap.pages
owed_inside v t x c here last safe = inside_by v safe t x here c last

pub owed_missing : (v : CoreValue) (t : ℕ) (x : TxnState) → txn_shown v t ≡ Some x → (x.progress ≡ OwesRow) ⊎ (x.progress ≡ OwesEntry) → last_change x ≡ None
    → IsSafe v → ⊥
owed_missing v t x here owes none safe = owed_by v safe t x here owes none

pub owed_places : (v : CoreValue) (t : ℕ) (x : TxnState) (c : ChangeValue) (p : Pair) → txn_shown v t ≡ Some x → last_change x ≡ Some c
    → new_pair (is_indexed v.life) c ≡ Some p → IsSafe v → pledges_used (get v.index.entries p) ≤ x.reserved
owed_places v t x c p here last pair safe = paid_by v safe t x here c last p pair

pub owed_pair : (v : CoreValue) (t : ℕ) (x : TxnState) (c : ChangeValue) → txn_shown v t ≡ Some x → last_change x ≡ Some c → x.progress ≡ OwesEntry
    → new_pair (is_indexed v.life) c ≡ None → IsSafe v → ⊥
owed_pair v t x c here last owes none safe =
    let s = safe.state in
    let first = newest_last v s safe.standing safe.is t x here c last in
    let is = entry_phase x.progress (txn_at s t).phase owes (phase_of v s safe.standing safe.is t x here) in
    let has : HasShape (is_indexed s.life) c RowSet = subst (HasShape (is_indexed s.life) c) is (shape v s safe.standing safe.is t x here c first.0 first.1) in
    not_none has.is (ap (λ life. new_pair (is_indexed life) c) safe.is.shown.life ∙ none)

-- ---- of what the table answers
pub some_txn : (o : Option TxnState) (c : ChangeValue) → option_and_then last_change o ≡ Some c → (x : TxnState) × (o ≡ Some x) × (last_change x ≡ Some c)
some_txn None c e = absurd cc
some_txn (Some x) c e = (x, refl, e)

pub so_far : (x : TxnState) (o : Option TxnState) → o ≡ Some x → (f p : Progress)
    → (◌≡◌ {A = Option Progress} (Some f) (option_map (λ (y : TxnState). y.progress) o)) → f ≡ p → x.progress ≡ p
so_far x None here f p e is = absurd cc
so_far x (Some y) here f p e is = let same : (◌≡◌ {A = Option Progress} (Some f) (Some x.progress)) = e
    ∙ ap (option_map (λ (z : TxnState). z.progress)) here in sym (inside_of f x.progress same) ∙ is
  where
    inside_of : (a b : Progress) → (◌≡◌ {A = Option Progress} (Some a) (Some b)) → a ≡ b
    inside_of a b e = cc

module _ (v : CoreValue) (t : ℕ) (c : ChangeValue) (newest : option_and_then last_change (txn_shown v t) ≡ Some c) where
  of_txn : (x : TxnState) × (txn_shown v t ≡ Some x) × (last_change x ≡ Some c)
  of_txn = some_txn (txn_shown v t) c newest

  pub newest_inside : IsSafe v → c.rid.page + 1 ≤ v.heap.pages
  newest_inside safe = let less : c.rid.page < v.heap.pages = owed_inside v t of_txn.0 c of_txn.1 of_txn.2 safe in omega (arith, less)

  pub entry_enough : (p : Pair) → new_pair (is_indexed v.life) c ≡ Some p → IsSafe v → pledges_used (get v.index.entries p) ≤ reserved_of (txn_shown v t)
  entry_enough p pair safe = subst (λ o. pledges_used (get v.index.entries p) ≤ reserved_of o) (sym of_txn.1)
      (owed_places v t of_txn.0 c p of_txn.1 of_txn.2 pair safe)

  module _ (f : Progress) (at_f : ◌≡◌ {A = Option Progress} (Some f) (option_map (λ (y : TxnState). y.progress) (txn_shown v t))) where
    pub no_entry : f ≡ OwesEntry → new_pair (is_indexed v.life) c ≡ None → IsSafe v → ⊥
    no_entry is none safe = owed_pair v t of_txn.0 c of_txn.1 of_txn.2 (so_far of_txn.0 (txn_shown v t) of_txn.1 f OwesEntry at_f is) none safe

    module _ (asked : OwesOrNone (txn_shown v t)) (has : HasRecord v t) where
      pub row_carried : f ≡ OwesRow → (v' : CoreValue) → v'
          ≡ row_stepped v t (row_progress (new_pair (is_indexed v.life) c)) c.rid (new_row c.rows) (Forward Slot c) → Serves v (Event.Step t) Stepped v'
      row_carried is v' same = row_served v t asked has of_txn.0 c of_txn.1 of_txn.2 (so_far of_txn.0 (txn_shown v t) of_txn.1 f OwesRow at_f is) v' same

      pub entry_carried : f ≡ OwesEntry → (m : Pair × TxnAction) → new_pair (is_indexed v.life) c ≡ Some m.0 → m.1 ≡ Forward NewEntry c → (v' : CoreValue)
          → v' ≡ entry_stepped v t Ready m.0 Live m.1 → Serves v (Event.Step t) Stepped v'
      entry_carried is m pair action v' same = entry_served v t asked has of_txn.0 c m.0 of_txn.1 of_txn.2
          (so_far of_txn.0 (txn_shown v t) of_txn.1 f OwesEntry at_f is) pair v' (same ∙ ap (entry_stepped v t Ready m.0 Live) action)

pub newest_missing : (v : CoreValue) (t : ℕ) → OwesOrNone (txn_shown v t) → txn_shown v t ≢ None → option_and_then last_change (txn_shown v t) ≡ None → IsSafe v
    → ⊥
newest_missing v t asked active none safe =
    let x = there v t active in
    owed_missing v t x.0 x.1 (subst OwesOrNone x.1 asked) (ap (option_and_then last_change) (sym x.1) ∙ none) safe
