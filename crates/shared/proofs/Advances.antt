-- What a step of a change makes of its seat's session.
use Rattle.std.proofs.Common.{◌≡◌, ◌≢◌, ◌==◌, ℕ, Bool, true, false, cond, List, Option, Some, None, is_some, not, ◌&&◌, ◌⊎◌, inl, inr, ⊎_elim, refl, sym, ap}
use Rattle.std.proofs.Common.{◌∙◌, subst}
use Rattle.std.specs.FinMap.{get}
use Rattle.std.specs.Option.{option_map}
use Rattle.std.specs.Prelude.{option_and_then, slice_get, slice_set}
use Rattle.records.specs.ChangeValue.{ChangeValue}
use Rattle.records.specs.RecordValue.{RecordValue}
use Rattle.record_values.specs.Values.{Place}
use Rattle.records.specs.declared.change.Rows.TheVariants.{Deleted, Inserted, Updated}
use Rattle.record_values.specs.declared.row.Row.{Row}
use Rattle.model.specs.declared.write.Write.{Write}
use Rattle.core_model.proofs.Laws.{made_holds}
use Rattle.core_model.specs.Histories.{CanOpen, Opened, write_of}
use Rattle.core_model.specs.Invariants.{Invariant}
use Rattle.core_model.specs.States.{Active, State}
use Rattle.core_model.specs.Steps.{after, CanStart, MachineStep, Next, Start, txn_at}
use Rattle.core_model.proofs.ReplyLaws.{is_move}
use Rattle.core_model.specs.Events.{Event, Refused, Reply, Skipped, Standing, standing_after, Stepped}
use Rattle.core_model.specs.Replies.{accepted, after_any, change_of, IsAllowed, IsStepDue, IsProper, no_memory, Owes, refused, refused_last, skipped}
use Rattle.core_model.specs.Replies.{unknown}
use Rattle.core_model.specs.Served.{IsEnabledAny}
use Rattle.core_parts.specs.View.{Answers, CoreValue, Serves, Shows}
use Rattle.txn_table.specs.Table.{state_of}
use Rattle.threads_register.proofs.Laws.{delete_agreed, insert_agreed, next_agreed, rows_left, update_agreed}
use Rattle.threads_register.specs.Agreement.{Agree, IsRegister, IsSeen, is_owed, newest_write, owed_write, row_held, seen_at}
use Rattle.threads_sessions.specs.Steps.{change_seen, changed, step_seen, stepped, unfinished_in}
use Rattle.threads_sessions.specs.Values.{active_of, ActiveValue, can_go_on, is_active, is_ready, SessionValue, with_active}
use Rattle.shared.specs.Changed.{IsUnderWay, row_of, unfinished_of}
use Rattle.shared.proofs.Lookups.{held_by, held_mine, others_stay, owed_one, still_active}
use Rattle.threads_register.proofs.Laws.{get_set, get_within, number_is, with_own}
use Rattle.shared.proofs.Stepped.{first, following, IsStep}

-- ---- an answer

abbrev IsAnswer : Reply → Type 0
IsAnswer Skipped = ⊥
IsAnswer (Refused error) = ⊥
IsAnswer _ = Unit {0}

pub due : (s : State) (k : Standing) (e : Event) (reply : Reply) (step : Option MachineStep) → IsAllowed s k e reply step → IsAnswer reply → IsProper s e
    × IsStepDue s k e reply step
due s k e reply step (unknown a) answer = absurd answer
due s k e reply step (skipped a b) answer = absurd answer
due s k e reply step (refused a b error f) answer = absurd answer
due s k e reply step (refused_last a b f r t d error g) answer = absurd answer
due s k e reply step (no_memory a b f r t d g w) answer = absurd answer
due s k e reply step (accepted a b f r t d g) answer = (b, d)

one_place : (a b : Place) → Reply.Rid a ≡ Reply.Rid b → a ≡ b
one_place a b e = cc

-- ---- a transaction of a session

found : (o : Option ActiveValue) → is_some o ≡ true → (a : ActiveValue) × (o ≡ Some a)
found None e = absurd cc
found (Some a) e = (a, refl)

goes_on : (a : ActiveValue) (o : Option ActiveValue) → o ≡ Some a → can_go_on o ≡ true → a.rolling ≡ false
goes_on a o is ready = by (is_some a.unfinished) a.rolling (sym (ap can_go_on is) ∙ ready)
  where
    by : (u b : Bool) → (not u && not b) ≡ true → b ≡ false
    by true b e = absurd cc
    by false true e = absurd cc
    by false false e = refl

none_or_this : (b : Bool) (u : Option Write) (w : Write) → u ≡ cond b (Some w) None → u ≢ None → u ≡ Some w
none_or_this true u w is there = is
none_or_this false u w is there = absurd (there is)

not_this : (b : Bool) (u : Option Write) (w : Write) → u ≡ cond b (Some w) None → u ≡ None → b ≡ false
not_this true u w is none = absurd (never (sym is ∙ none))
  where
    never : Some w ≡ None → ⊥
    never e = absurd cc
not_this false u w is none = refl

module _ (o : Opened) (can : CanOpen o) (pushed : List RecordValue) (core new : CoreValue) (book : List SessionValue) (r : IsRegister o pushed core book)
    (seat : ℕ) (p : SessionValue) (there : slice_get book seat ≡ Some p) (t : ℕ) (own : is_active p t ≡ true) where
  abbrev s : State
  s = r.kept.replied.state

  abbrev k : Standing
  k = r.kept.replied.standing

  abbrev shown : Shows core s k
  shown = r.kept.replied.stands.shown

  -- ---- the session after a step, as the core leaves the transaction

  module _ (f : ActiveValue → ActiveValue) (keeps : (a : ActiveValue) → (f a).txn ≡ a.txn) (rolls_on : (a : ActiveValue) → (f a).rolling ≡ a.rolling)
      (register : IsRegister o pushed new (slice_set book seat (record p { active = with_active f t p.active })))
      (w : Write) (s' : State) (k' : Standing) (shows : Shows new s' k') (step : IsStep s s' t w)
      (a : ActiveValue) (at : active_of t p.active ≡ Some a) (going : a.rolling ≡ false)
      (left : (f a).unfinished ≡ cond (is_owed step.txn.phase step.txn.rolling) (Some w) None) where
    abbrev q : SessionValue
    q = record p { active = with_active f t p.active }

    own_now : is_active q t ≡ true
    own_now = still_active f keeps t p.active own

    at_now : active_of t q.active ≡ Some (f a)
    at_now = with_own f keeps t p.active ∙ ap (option_map f) at

    here : slice_get (slice_set book seat q) seat ≡ Some q
    here = get_set book seat q (get_within book seat p there)

    row_before : (x : Place) → row_of p t x ≡ row_held t (s.holder x) (get s.rows x)
    row_before x = rows_left o can pushed core book r seat p there t own x ∙ (λ i. row_held t (sym (shown.holder x) i) (get (sym shown.rows i) x))

    row_after : (x : Place) → row_of q t x ≡ row_held t (s'.holder x) (get s'.rows x)
    row_after x = rows_left o can pushed new (slice_set book seat q) register seat q here t own_now x
        ∙ (λ i. row_held t (sym (shows.holder x) i) (get (sym shows.rows i) x))

    unfinished_now : unfinished_of q t ≡ cond (is_owed step.txn.phase step.txn.rolling) (Some w) None
    unfinished_now = ap (option_and_then (λ (y : ActiveValue). y.unfinished)) at_now ∙ left

    ready_now : unfinished_of q t ≡ None → is_ready q t ≡ true
    ready_now none =
        let is_none : (f a).unfinished ≡ None = sym (ap (option_and_then (λ (y : ActiveValue). y.unfinished)) at_now) ∙ none in
        ap can_go_on at_now ∙ (λ i. not (is_some (is_none i)) && not ((rolls_on a ∙ going) i))

    pub under_way : IsUnderWay p t w q
    under_way = record {
      others = others_stay f keeps t p;
      rows = λ x apart. row_after x ∙ ((λ i. row_held t (step.holder x apart i) (get_at x apart i)) ∙ sym (row_before x));
      unfinished = none_or_this _ (unfinished_of q t) w unfinished_now;
      row = λ none. here_now ∙ ap Some (step.row (not_this _ (unfinished_of q t) w unfinished_now none));
      ready = ready_now;
      stays = λ before is. ∣ stay before is ∣₁;
    }
      where
        here_now : row_of q t w.rid ≡ Some (get s'.rows w.rid)
        here_now = row_after w.rid ∙ (ap (λ (m : Option ℕ). row_held t m (get s'.rows w.rid)) step.mine ∙ held_mine t (get s'.rows w.rid))

        stay : (before : Option Row) → row_of p t w.rid ≡ Some before → (row_of q t w.rid ≡ Some before) ⊎ (row_of q t w.rid ≡ Some w.row)
        stay before is = ⊎_elim
            (λ (same : get s'.rows w.rid ≡ get s.rows w.rid). inl (here_now
            ∙ ap Some (same ∙ (held_by t (s.holder w.rid) (get s.rows w.rid) before (sym (row_before w.rid) ∙ is)).1)))
            (λ (new_row : get s'.rows w.rid ≡ w.row). inr (here_now ∙ ap Some new_row))
            step.kept

        get_at : (x : Place) (apart : x ≢ w.rid) → get s'.rows x ≡ get s.rows x
        get_at x apart = step.rows x apart

  -- ---- the first step of a change

  module _ (e : Event) (reply : Reply) (sv : Serves core e reply new) where
    abbrev answer : Answers core s k e reply new
    answer = sv s k r.kept.replied.stands

    shown_by : (step : Option MachineStep) → answer.step ≡ step → Shows new (after_any s step) (standing_after k reply)
    shown_by step is = subst (λ x. Shows new (after_any s x) (standing_after k reply)) is answer.shown

    enabled_by : (step : Option MachineStep) → answer.step ≡ step → IsEnabledAny s step
    enabled_by step is = subst (IsEnabledAny s) is
        (is_move s k e reply answer.step r.kept.replied.stands.fit r.kept.replied.stands.standing answer.allowed).enabled

  module _ (ready : is_ready p t ≡ true) where
    start : (e : Event) (reply : Reply) (sv : Serves core e reply new) (c : ChangeValue) → (answer e reply sv).step ≡ Some (Start t c)
        → IsRegister o pushed new (slice_set book seat (changed p new t (write_of c))) → IsUnderWay p t (write_of c) (changed p new t (write_of c))
    start e reply sv c is register =
        let w : Write = write_of c in
        let can_start : CanStart s t c = enabled_by e reply sv (Some (Start t c)) is in
        let shows = shown_by e reply sv (Some (Start t c)) is in
        let step : IsStep s (after s (Start t c)) t w = first s t c can_start.ready.1 in
        let a = found (active_of t p.active) own in
        under_way (change_seen new w) (λ x. refl) (λ x. refl) register w (after s (Start t c)) (standing_after k reply) shows step a.0 a.1
        (goes_on a.0 (active_of t p.active) a.1 ready)
        (ap (λ n. unfinished_in new n w) (number_is t p.active a.0 a.1) ∙ owed_one (state_of t new.txns.active) _ step.txn w (shows.txns t) step.active)

    pub inserted : (row : Row) (rid : Place) (sv : Serves core (Event.Insert t row) (Reply.Rid rid) new)
        → IsUnderWay p t (record { rid = rid; row = Some row }) (changed p new t (record { rid = rid; row = Some row }))
    inserted row rid sv =
        let d = (due s k (Event.Insert t row) (Reply.Rid rid) _ (answer (Event.Insert t row) (Reply.Rid rid) sv).allowed tt).1 in
        let same : rid ≡ d.0 = one_place rid d.0 d.2 in
        start (Event.Insert t row) (Reply.Rid rid) sv (change_of s t rid (Inserted row)) (d.3
        ∙ ap (λ x. Some (Start t (change_of s t x (Inserted row)))) (sym same))
        (insert_agreed o can pushed core book r seat p there t own row rid new sv)

    pub deleted : (rid : Place) (sv : Serves core (Event.Delete t rid) Stepped new)
        → IsUnderWay p t (record { rid = rid; row = None }) (changed p new t (record { rid = rid; row = None }))
    deleted rid sv =
        let d = (due s k (Event.Delete t rid) Stepped _ (answer (Event.Delete t rid) Stepped sv).allowed tt).1 in
        start (Event.Delete t rid) Stepped sv (change_of s t rid (Deleted d.0)) d.3
        (delete_agreed o can pushed core book r seat p there t own rid new sv)

    pub updated : (rid : Place) (row : Row) (sv : Serves core (Event.Update t rid row) Stepped new)
        → IsUnderWay p t (record { rid = rid; row = Some row }) (changed p new t (record { rid = rid; row = Some row }))
    updated rid row sv =
        let d = (due s k (Event.Update t rid row) Stepped _ (answer (Event.Update t rid row) Stepped sv).allowed tt).1 in
        start (Event.Update t rid row) Stepped sv (change_of s t rid (Updated d.0 row)) d.3
        (update_agreed o can pushed core book r seat p there t own rid row new sv)

  -- ---- the steps that follow

  owes_newest : (x : Active) → Owes x → owed_write x ≡ newest_write x.changes
  owes_newest x owes = ap (λ b. cond b (newest_write x.changes) None)
      (⊎_elim (λ e. (λ i. is_owed (e i) (owes.1 i))) (λ e. (λ i. is_owed (e i) (owes.1 i))) owes.0)

  seen_now : (a : ActiveValue) → active_of t p.active ≡ Some a → (x : Active) → s.txns t ≡ Some x → IsSeen s t a x
  seen_now a at x active = by (seat == r.owner t) (subst (λ m. Agree s t m (cond (seat == r.owner t) (s.txns t) None)) shown_at
      (r.owned seat t (get_within book seat p there)))
    where
      shown_at : seen_at book seat t ≡ Some a
      shown_at = ap (λ m. option_and_then (λ (v : SessionValue). active_of t v.active) m) there ∙ at

      by : (b : Bool) → Agree s t (Some a) (cond b (s.txns t) None) → IsSeen s t a x
      by true h = subst (Agree s t (Some a)) active h
      by false h = absurd h

  pub followed : (w : Write) → unfinished_of p t ≡ Some w → Serves core (Event.Step t) Stepped new → IsUnderWay p t w (stepped p new t)
  followed w asked sv =
      let d = due s k (Event.Step t) Stepped _ (answer (Event.Step t) Stepped sv).allowed tt in
      let owes : Owes (txn_at s t) = d.0 in
      let active : s.txns t ≡ Some (txn_at s t) = (enabled_by (Event.Step t) Stepped sv (Some (Next t)) d.1.1).0 in
      let shows = shown_by (Event.Step t) Stepped sv (Some (Next t)) d.1.1 in
      let holds : Invariant s = made_holds o can _ _ _ s r.kept.replied.served.log in
      let a = found (active_of t p.active) own in
      let seen = seen_now a.0 a.1 (txn_at s t) active in
      let this : a.0.unfinished ≡ Some w = sym (ap (option_and_then (λ (y : ActiveValue). y.unfinished)) a.1) ∙ asked in
      let newest : newest_write (txn_at s t).changes ≡ Some w = sym (owes_newest (txn_at s t) owes) ∙ (sym seen.unfinished ∙ this) in
      let step : IsStep s (after s (Next t)) t w = following s holds t active owes.0 w newest in
      under_way (step_seen new) (λ x. refl) (λ x. refl) (next_agreed o can pushed core book r seat p there t own new sv) w (after s (Next t))
      (standing_after k Stepped) shows step a.0 a.1 (seen.rolling ∙ owes.1)
      (ap (option_and_then (unfinished_in new a.0.txn)) this
      ∙ (ap (λ n. unfinished_in new n w) (number_is t p.active a.0 a.1) ∙ owed_one (state_of t new.txns.active) _ step.txn w (shows.txns t) step.active))
