-- Which replies to a deletion and to an update are allowed.
use Rattle.std.proofs.Common.{Bool, None, Option, Some, [], ap, arith, cond, false, inl, inr, refl, subst, sym, true, ℕ, ◌++◌, ◌+◌, ◌-◌, ◌∙◌, ◌∷◌, ◌≡◌, ◌≢◌}
use Rattle.std.proofs.Common.{◌⊎◌}
use Rattle.std.proofs.lemmas.Bool.Decides.{eqb_tells}
use Rattle.std.specs.FinMap.{get}
use Rattle.std.proofs.Common.{eqb}
use Rattle.std.specs.Option.{option_or}
use Rattle.std.specs.Prelude.{not}
use Rattle.records.specs.ChangeValue.{ChangeValue}
use Rattle.record_values.specs.Maps.{get-set_at_same, pair_exact, set_at, set_at-again, set_at-get}
use Rattle.record_values.specs.Values.{Place}
use Rattle.records.specs.declared.change.Rows.{Rows}
use Rattle.records.specs.declared.change.Rows.TheVariants.{Deleted, Updated}
use Rattle.record_values.specs.declared.error.Error.{Error}
use Rattle.record_values.specs.declared.error.Error.TheVariants.{NoSuchRow, NoSuchTxn, RowBusy, TooManyChanges}
use Rattle.record_values.specs.declared.limits.TheConstants.{PLACES_PER_CHANGE}
use Rattle.record_values.specs.declared.pair.Mark.{Mark}
use Rattle.record_values.specs.declared.pair.Mark.TheVariants.{Marked}
use Rattle.record_values.specs.declared.pair.Pair.{Pair}
use Rattle.record_values.specs.declared.row.Row.{Row}
use Rattle.model.specs.Pairs.{is_indexed, old_pair}
use Rattle.txn_table.specs.Table as table
use Rattle.txn_table.specs.Table.{TxnState, holder_of}
use Rattle.txn_table.specs.declared.progress.Progress.TheVariants.{Ready}
use Rattle.marked_index.specs.Index.{IndexValue, pledges_used}
use Rattle.core_model.proofs.Laws.{not_none}
use Rattle.core_model.specs.Logs.{one_record}
use Rattle.core_model.specs.Records.{action_of, first_action}
use Rattle.core_model.specs.States.{State}
use Rattle.core_model.specs.Steps.{IsReady, Start, MachineStep, after, txn_at}
use Rattle.core_model.specs.Events.{Event, Refused, Standing, Stepped}
use Rattle.core_model.specs.Replies.{HasNoMoreChanges, IsStepDue, IsFirst, IsHeldByOther, IsOfNone, IsProper, change_of, refusals, refused, refused_last}
use Rattle.core_model.specs.Replies.{unknown}
use Rattle.core_parts.specs.Asked.{IsFine, IsRefused}
use Rattle.core_parts.proofs.Checking.{unchangeable_by_state}
use Rattle.core_parts.specs.View.{Answers, CoreValue, IsState, Serves, Shows}
use Rattle.core_parts.specs.Moves.{IsReadyOrNone, txn_shown}
use Rattle.core_parts.specs.Private.{IsAble, IsMine, IsUnchangeable, IsUnroomy, MayStart, first_made, is_busy, is_full, is_missing, is_unable, is_unknown}
use Rattle.core_parts.specs.Private.{is_unroomy, next_change}
use Rattle.core_parts.proofs.Due.{made, no_number, refusal, wants_memory}
use Rattle.core_parts.proofs.Inserting.{able, full, has_places, lacks_places, no_txn, not_full, same_position, some_is, unable}
use Rattle.core_parts.proofs.Moved.{is_ready, known}
use Rattle.core_parts.proofs.Started.{first_shown}

-- ---- the table's refusal of a touch
module _ (v : CoreValue) (t : ℕ) (r : Place) where
  mine_by : (o : Option ℕ) → holder_of r v.txns.active ≡ o → table.busy_refusal t o ≡ None → IsMine v t r
  mine_by None e h u is = absurd (not_none is e)
  mine_by (Some u) e h w is = same w u (sym is ∙ e) ∙ held (eqb_tells u t) h
    where
      same : (a b : ℕ) → (◌≡◌ {A = Option ℕ} (Some a) (Some b)) → a ≡ b
      same a b e = cc

      held : ((eqb u t ≡ true) × (u ≡ t)) ⊎ ((eqb u t ≡ false) × (u ≢ t)) → cond (not (eqb u t)) (Some RowBusy) None ≡ None → u ≡ t
      held (inl p) h = p.1
      held (inr p) h = absurd (busy (eqb u t) p.0 h)
        where
          busy : (b : Bool) → b ≡ false → cond (not b) (Some RowBusy) None ≡ None → ⊥
          busy true e h = cc
          busy false e h = cc

  touched : (o : Option Error) → table.change_refusal t v.txns.active ≡ o → option_or o (table.busy_refusal t (holder_of r v.txns.active)) ≡ None → IsAble v t
      × IsMine v t r
  touched None e h = (able v t e, mine_by (holder_of r v.txns.active) refl h)
  touched (Some e) is h = absurd cc

  pub may_touch : table.touch_refusal t r v.txns.active ≡ None → IsAble v t × IsMine v t r
  may_touch h = touched (table.change_refusal t v.txns.active) refl h

  busy_by : (error : Error) → IsAble v t → (o : Option ℕ) → holder_of r v.txns.active ≡ o → table.busy_refusal t o ≡ Some error → IsUnchangeable v t r error
  busy_by error a None e h = absurd cc
  busy_by error a (Some u) e h = held (eqb_tells u t) h
    where
      held : ((eqb u t ≡ true) × (u ≡ t)) ⊎ ((eqb u t ≡ false) × (u ≢ t)) → cond (not (eqb u t)) (Some RowBusy) None ≡ Some error → IsUnchangeable v t r error
      held (inl p) h = absurd (free (eqb u t) p.0 h)
        where
          free : (b : Bool) → b ≡ true → cond (not b) (Some RowBusy) None ≡ Some error → ⊥
          free true e h = cc
          free false e h = cc
      held (inr p) h = is_busy a u e p.1 (busy (eqb u t) p.0 h)
        where
          busy : (b : Bool) → b ≡ false → cond (not b) (Some RowBusy) None ≡ Some error → error ≡ RowBusy
          busy true e h = absurd cc
          busy false e h = sym (some_is RowBusy error h)

  refused_by : (error : Error) (o : Option Error) → table.change_refusal t v.txns.active ≡ o
      → option_or o (table.busy_refusal t (holder_of r v.txns.active)) ≡ Some error → IsUnchangeable v t r error
  refused_by error None e h = busy_by error (able v t e) (holder_of r v.txns.active) refl h
  refused_by error (Some other) e h = is_unable (unable v t error (e ∙ h))

  pub untouchable : (error : Error) → table.touch_refusal t r v.txns.active ≡ Some error → IsUnchangeable v t r error
  untouchable error h = refused_by error (table.change_refusal t v.txns.active) refl h

-- ---- an event that changes the row at a place
pub record IsChange (e : Event) (t : ℕ) (r : Place) (rows : Row → Rows) : Type 1 where
  pub of_none : (s : State) → s.txns t ≡ None → IsOfNone s e
  pub known : (s : State) → (s.txns t ≡ None → ⊥) → IsOfNone s e → ⊥
  pub proper : (s : State) → IsReady (txn_at s t) → IsProper s e
  pub refused : (s : State) (k : Standing) (o : Option Error)
      → IsFirst ((HasNoMoreChanges s t, TooManyChanges) ∷ (IsHeldByOther s t r, RowBusy) ∷ (get s.rows r ≡ None, NoSuchRow) ∷ []) o → IsFirst (refusals s k e) o
  pub due : (s : State) (k : Standing) (old : Row) → get s.rows r ≡ Some old → IsStepDue s k e Stepped (Some (Start t (change_of s t r (rows old))))

pub deletes : (t : ℕ) (r : Place) → IsChange (Event.Delete t r) t r Deleted
deletes t r = record { of_none = λ s h. h; known = λ s h. h; proper = λ s h. h; refused = λ s k o h. h; due = λ s k old h. (old, h, refl, refl) }

pub updates : (t : ℕ) (r : Place) (row : Row) → IsChange (Event.Update t r row) t r (λ old. Updated old row)
updates t r row = record { of_none = λ s h. h; known = λ s h. h; proper = λ s h. h; refused = λ s k o h. h; due = λ s k old h. (old, h, refl, refl) }

module _ (v : CoreValue) (t : ℕ) (r : Place) (e : Event) (rows : Row → Rows) (is : IsChange e t r rows) (asked : IsReadyOrNone (txn_shown v t)) where
  module _ (s : State) (k : Standing) (st : IsState v s k) where
    abbrev h : Shows v s k
    h = st.shown

    module _ (a : IsAble v t) where
      there : IsOfNone s e → ⊥
      there = is.known s (known v s k h t a.txn a.here)

      ready : a.txn.progress ≡ Ready
      ready = subst IsReadyOrNone a.here asked

      proper : IsProper s e
      proper = is.proper s (is_ready v s k h t a.txn a.here ready)

      no_other : IsMine v t r → IsHeldByOther s t r → ⊥
      no_other mine other = other.2 (mine other.0 (sym (h.holder r) ∙ other.1))

      module _ (mine : IsMine v t r) (old : Row) (found : get v.heap.rows r ≡ Some old) where
        found_is : get s.rows r ≡ Some old
        found_is = ap (λ m. get m r) h.rows ∙ found

        first : IsFirst (refusals s k e) None
        first = is.refused s k None (inr (not_full v s k h t a, inr (no_other mine, inr (λ none. not_none found_is none, refl))))

        abbrev step : MachineStep
        step = Start t (change_of s t r (rows old))

        makes : action_of s step ≢ None
        makes none = not_none refl none

        unroomy_by : (error : Error) → IsUnroomy v error → Answers v s k e (Refused error) v
        unroomy_by error (inl why) = subst (λ n. Answers v s k e (Refused n) v) (sym why.0)
            (refusal v s k e Error.IndexFull h (refused_last there proper first Stepped (Some step) (is.due s k old found_is) Error.IndexFull
            (inl (lacks_places v s k h why.1.0 why.1.1, refl))))
        unroomy_by error (inr why) = subst (λ n. Answers v s k e (Refused n) v) (sym why.0)
            (no_number v s k h e there proper first Stepped step (is.due s k old found_is) (has_places v s k h why.1) makes why.2)

        module _ (may : MayStart v t r) where
          wants_by : Answers v s k e (Refused Error.NoMemory) v
          wants_by = wants_memory v s k h e there proper first Stepped step (is.due s k old found_is) (has_places v s k h may.fits) (λ n. may.numbered)
              (inl makes)

          abbrev c : ChangeValue
          c = next_change v t r (rows old)

          same_change : change_of s t r (rows old) ≡ c
          same_change = ap (λ (n : ℕ). let w : ChangeValue = record { position = n; rid = r; rows = rows old } in w) (same_position v s k h t a.txn a.here)

          done_by : (o : Option Pair) → old_pair (is_indexed v.life) c ≡ o → holder_of r (first_made v t c o).txns.active ≡ Some t
              → Answers v s k e Stepped (first_made v t c o)
          done_by o pair held = made v s k h e there proper first Stepped step (is.due s k old found_is) (has_places v s k h may.fits) (λ n. may.numbered)
              (first_made v t c o)
              (subst (λ w. Shows (first_made v t c o) (after s (Start t w)) (record k { made = k.made + 1 })) (sym same_change)
              (first_shown v s k h t a.txn a.here ready c o pair held))
              (outbox o ∙ ap (λ w. v.outbox ++ one_record v.last (Some w)) (sym action))
            where
              outbox : (o : Option Pair) → (first_made v t c o).outbox ≡ v.outbox ++ one_record v.last (Some (first_action t c o))
              outbox None = refl
              outbox (Some p) = refl

              action : first_action t (change_of s t r (rows old)) (old_pair (is_indexed s.life) (change_of s t r (rows old))) ≡ first_action t c o
              action = ap (λ w. first_action t w (old_pair (is_indexed s.life) w)) same_change
                  ∙ ap (λ life. first_action t c (old_pair (is_indexed life) c)) h.life ∙ ap (first_action t c) pair

  pub change_refused : (error : Error) → IsUnchangeable v t r error → Serves v e (Refused error) v
  change_refused error (is_unable (is_unknown none e')) s k st =
      subst (λ n. Answers v s k e (Refused n) v) (sym e') (refusal v s k e NoSuchTxn st.shown (unknown (is.of_none s (no_txn v s k st.shown t none))))
  change_refused error (is_unable (is_full x here le e')) s k st = subst (λ n. Answers v s k e (Refused n) v) (sym e')
      (refusal v s k e TooManyChanges st.shown (refused (is.known s (known v s k st.shown t x here))
      (is.proper s (is_ready v s k st.shown t x here (subst IsReadyOrNone here asked))) TooManyChanges
      (is.refused s k (Some TooManyChanges) (inl (full v s k st.shown t x here le, refl)))))
  change_refused error (is_busy a u held other e') s k st = subst (λ n. Answers v s k e (Refused n) v) (sym e')
      (refusal v s k e RowBusy st.shown (refused (there s k st a) (proper s k st a) RowBusy
      (is.refused s k (Some RowBusy) (inr (not_full v s k st.shown t a, inl ((u, st.shown.holder r ∙ held, other), refl))))))
  change_refused error (is_missing a mine none e') s k st = subst (λ n. Answers v s k e (Refused n) v) (sym e')
      (refusal v s k e NoSuchRow st.shown (refused (there s k st a) (proper s k st a) NoSuchRow
      (is.refused s k (Some NoSuchRow) (inr (
        not_full v s k st.shown t a,
        inr (no_other s k st a mine, inl (ap (λ m. get m r) st.shown.rows ∙ none, refl)),
      )))))
  change_refused error (is_unroomy a mine old found why) s k st = unroomy_by s k st a mine old found error why

  pub change_checked : (error : Error) → IsUnchangeable v t r error → IsRefused v e error
  change_checked error why = (unchangeable_by_state v error t r why, change_refused error why)

  module _ (may : MayStart v t r) (old : Row) (found : get v.heap.rows r ≡ Some old) where
    pub change_no_memory : (error : Error) (v' : CoreValue) → error ≡ Error.NoMemory → v' ≡ v → Serves v e (Refused error) v'
    change_no_memory error v' e' same s k st = subst (λ w. Answers v s k e (Refused error) w) (sym same)
        (subst (λ n. Answers v s k e (Refused n) v) (sym e') (wants_by s k st may.able (may_touch v t r may.free).1 old found may))

    pub change_fine : IsFine v e
    change_fine = change_no_memory Error.NoMemory v refl refl

    pub change_done : (change : ChangeValue) (v' : CoreValue) → change ≡ next_change v t r (rows old)
        → v' ≡ first_made v t change (old_pair (is_indexed v.life) change)
        → holder_of change.rid (first_made v t change (old_pair (is_indexed v.life) change)).txns.active ≡ Some t → Serves v e Stepped v'
    change_done change v' same now held s k st =
        subst (λ w. Answers v s k e Stepped w) (sym (now ∙ ap (λ w. first_made v t w (old_pair (is_indexed v.life) w)) same))
        (done_by s k st may.able (may_touch v t r may.free).1 old found may _ refl
        (subst (λ w. holder_of w.rid (first_made v t w (old_pair (is_indexed v.life) w)).txns.active ≡ Some t) same held))

-- ---- an entry that is marked, and given back as it was
pub marked_there : (i now : IndexValue) (p : Pair) (n : ℕ) → now ≡ record i { entries = set_at i.entries p (Some Marked); pledged = n }
    → get now.entries p ≢ None
marked_there i now p n is none = not_none (ap (λ (w : IndexValue). get w.entries p) is ∙ get-set_at_same pair_exact i.entries p (Some Marked)) none

pub as_before : (i now back : IndexValue) (p : Pair) (before : Option Mark) (left : ℕ) → before ≡ get i.entries p
    → left ≡ PLACES_PER_CHANGE - pledges_used (get i.entries p)
    → now ≡ record i { entries = set_at i.entries p (Some Marked); pledged = i.pledged + (PLACES_PER_CHANGE - pledges_used (get i.entries p)) }
    → back ≡ record now { entries = set_at now.entries p before; pledged = now.pledged - left } → back ≡ i
as_before i now back p before left b l n e =
    e ∙ ap (λ (w : IndexValue). record w { entries = set_at w.entries p before; pledged = w.pledged - left }) n
    ∙ (λ j. record i {
      entries = (set_at-again pair_exact i.entries p (Some Marked) before ∙ ap (set_at i.entries p) b ∙ set_at-get pair_exact i.entries p) j;
      pledged = none i.pledged _ left l j;
    })
  where
    none : (n d left : ℕ) → left ≡ d → n + d - left ≡ n
    none n d left e = omega (arith, e)
