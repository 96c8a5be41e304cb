-- An allowed reply is that of an enabled step, or of none.
use Rattle.std.proofs.Common.{None, Option, Some, [], ap, arith, inl, inr, refl, subst, sym, true, unwrap_or, ℕ, ◌+◌, ◌<◌, ◌∙◌, ◌∷◌, ◌≡◌, ◌≢◌, ◌≤◌, ◌⊎◌}
use Rattle.std.specs.FinMap.{get, len}
use Rattle.records.specs.ChangeValue.{ChangeValue}
use Rattle.records.specs.Spelling.{old_row}
use Rattle.record_values.specs.Values.{Place}
use Rattle.records.specs.declared.change.Rows.{Rows}
use Rattle.records.specs.declared.change.Rows.TheVariants.{Deleted, Inserted, Updated}
use Rattle.record_values.specs.declared.error.Error.{Error}
use Rattle.record_values.specs.declared.pair.Pair.{Pair}
use Rattle.model.specs.declared.life.Life.{Life}
use Rattle.model.specs.declared.life.Life.TheVariants.{Absent, Building, Complete}
use Rattle.core_model.specs.Events.{BuildReply, CleanReply, Cleaned, Done, Event, Idle, Kept, Placed, Rejected, Reply, Scanned, Standing, Wrapped}
use Rattle.core_model.specs.Replies.{HasNoPlace, IsAnyActive, IsBuildDue, IsCleanDue, IsStepDue, IsFirst, IsHeldByOther, IsOfNone, IsProper, build_step}
use Rattle.core_model.specs.Replies.{change_of, clean_step, last_refusals, refusals, refusals_of}
use Rattle.core_model.specs.Served.{HasStanding, IsEnabledAny}
use Rattle.core_model.proofs.Laws.{nat_decided, not_none}
use Rattle.core_model.specs.Invariants.{IsWellFormed}
use Rattle.core_model.specs.States.{Active, State}
use Rattle.core_model.specs.Steps.{Attempt, CanStart, HasFreePlaces, IsActive, IsEnabled, IsReady, Start, MachineStep, all_reserved, is_indexed, new_txn}
use Rattle.core_model.specs.Steps.{txn_at}

-- ---- a step that is not refused is enabled
not_refused : {A B : Type 0} {e : Error} → (A × (◌≡◌ {A = Option Error} None (Some e))) ⊎ ((A → ⊥) × B) → (A → ⊥) × B
not_refused (inl h) = absurd (not_none h.1 refl)
not_refused (inr h) = h

pub is_active : (s : State) (t : ℕ) → (s.txns t ≡ None → ⊥) → IsActive s t
is_active s t h = by_txn (s.txns t) refl
  where
    by_txn : (o : Option Active) → s.txns t ≡ o → s.txns t ≡ Some (unwrap_or (s.txns t) new_txn)
    by_txn None e = absurd (h e)
    by_txn (Some x) e = e ∙ ap (λ o. Some (unwrap_or o new_txn)) (sym e)

last_room : (s : State) (k : Standing) (e : MachineStep) → IsFirst (last_refusals s k e) None → HasNoPlace s e → ⊥
last_room s k e f = (not_refused f).0

least_more : (n m : ℕ) → (m < n → ⊥) → n ≤ m
least_more n m h = omega (arith, h)

start_room : (s : State) (k : Standing) (t : ℕ) (c : ChangeValue) → IsFirst (last_refusals s k (Start t c)) None → HasFreePlaces s
start_room s k t c f e = least_more _ _ (λ less. last_room s k (Start t c) f (e, less))

attempt_room : (s : State) (k : Standing) (p : Pair) → IsFirst (last_refusals s k (Attempt p)) None → get s.entries p ≡ None
    → len s.entries + all_reserved s.pledges < s.places
attempt_room s k p f e = more_by _ _ (λ less. last_room s k (Attempt p) f (e, less))
  where
    more_by : (n m : ℕ) → (m ≤ n → ⊥) → n < m
    more_by n m h = omega (arith, h)

unheld_by : (o : Option ℕ) (t : ℕ) → ((u : ℕ) × (o ≡ Some u) × (u ≢ t) → ⊥) → (o ≡ None) ⊎ (o ≡ Some t)
unheld_by None t h = inl refl
unheld_by (Some u) t h = elim (nat_decided u t) [ inl same ↦ inr (ap Some same) | inr n ↦ absurd (h (u, refl, n)) ]

not_indexed : (life : Life) → (is_indexed life ≡ true → ⊥) → life ≡ Absent
not_indexed Absent h = refl
not_indexed (Building highest) h = absurd (h refl)
not_indexed Complete h = absurd (h refl)

quiet : (s : State) → (IsAnyActive s → ⊥) → (t : ℕ) → s.txns t ≡ None
quiet s h t = by_txn (s.txns t) refl
  where
    by_txn : (o : Option Active) → s.txns t ≡ o → s.txns t ≡ None
    by_txn None e = e
    by_txn (Some x) e = absurd (h (t, x, e))

no_txn_above : (s : State) (n : ℕ) → ((t : ℕ) (x : Active) → s.txns t ≡ Some x → t ≤ n) → s.txns (n + 1) ≡ None
no_txn_above s n h = by_txn (s.txns (n + 1)) refl
  where
    too_great : n + 1 ≤ n → ⊥
    too_great l = omega (arith, l)

    by_txn : (o : Option Active) → s.txns (n + 1) ≡ o → s.txns (n + 1) ≡ None
    by_txn None e = e
    by_txn (Some x) e = absurd (too_great (h (n + 1) x e))

-- ---- of which step an event is
module _ (s : State) (k : Standing) (i : IsWellFormed s) (h : HasStanding s k) where
  by_step : (e : MachineStep) (step : Option MachineStep) → step ≡ Some e → (IsFirst (last_refusals s k e) None → IsEnabled s e)
      → IsFirst (refusals_of s k step) None → IsEnabledAny s step
  by_step e step is f last = subst (IsEnabledAny s) (sym is) (f (subst (λ o. IsFirst (refusals_of s k o) None) is last))

  change_enabled : (t : ℕ) (r : Place) (rows : Rows) → (s.txns t ≡ None → ⊥) → IsReady (txn_at s t) → get s.rows r ≡ old_row rows → (IsHeldByOther s t r → ⊥)
      → r.page < s.pages
      → IsFirst (last_refusals s k (Start t (change_of s t r rows))) None → CanStart s t (change_of s t r rows)
  change_enabled t r rows known ready before free inside last = record {
    active = is_active s t known;
    ready = ready;
    position = refl;
    before = before;
    mine = unheld_by (s.holder r) t free;
    inside = inside;
    room = start_room s k t (change_of s t r rows) last;
  }

  build_enabled : (b : BuildReply) → IsBuildDue s k b → IsFirst (refusals_of s k (build_step b)) None → IsEnabledAny s (build_step b)
  build_enabled Idle d last = tt
  build_enabled (BuildReply.Marked p n) d last = (d.0, d.2)
  build_enabled (Scanned page) d last = d.0.0
  build_enabled (Placed p) d last = record {
    building = d.0.0;
    given = d.1.given;
    rising = d.1.rising;
    all_taken = d.1.all_taken;
    none_left = d.1.none_left;
    room = attempt_room s k p last;
  }
  build_enabled (Rejected p) d last = record {
    building = d.0.0;
    given = d.1.given;
    rising = d.1.rising;
    all_taken = d.1.all_taken;
    none_left = d.1.none_left;
    room = λ e. absurd (d.2 e);
  }
  build_enabled (Done n) d last = d.1

  clean_enabled : (c : CleanReply) → IsCleanDue s c → IsEnabled s (clean_step c)
  clean_enabled (Cleaned p) d = d.1
  clean_enabled (Kept p) d = tt
  clean_enabled Wrapped d = tt

  pub due_enabled : (e : Event) (reply : Reply) (step : Option MachineStep) → (IsOfNone s e → ⊥) → IsProper s e → IsFirst (refusals s k e) None
      → IsStepDue s k e reply step → IsFirst (refusals_of s k step) None → IsEnabledAny s step
  due_enabled Event.Begin reply step known proper first d last = by_step _ step d.1 (λ l. no_txn_above s k.begun h.begun) last
  due_enabled (Event.Insert t row) reply step known proper first d last =
      by_step _ step d.3 (change_enabled t d.0 (Inserted row) known proper d.1.free.empty (λ held. not_none held.1 d.1.free.unheld) d.1.free.inside) last
  due_enabled (Event.Delete t r) reply step known proper first d last =
      by_step _ step d.3 (change_enabled t r (Deleted d.0) known proper d.1 (not_refused (not_refused first).1).0 (i.rows r d.0 d.1)) last
  due_enabled (Event.Update t r row) reply step known proper first d last =
      by_step _ step d.3 (change_enabled t r (Updated d.0 row) known proper d.1 (not_refused (not_refused first).1).0 (i.rows r d.0 d.1)) last
  due_enabled (Event.Step t) reply step known proper first d last = by_step _ step d.1 (λ l. (is_active s t known, proper.1)) last
  due_enabled (Event.Undo t) reply step known proper first d last = by_step _ step d.1 (λ l. is_active s t known) last
  due_enabled (Event.End t) reply step known proper first d last = by_step _ step d.1 (λ l. (is_active s t known, proper)) last
  due_enabled (Event.Commit t) reply step known proper first d last = by_step _ step d.1 (λ l. (is_active s t known, proper)) last
  due_enabled Event.Create reply step known proper first d last =
      let f : (is_indexed s.life ≡ true → ⊥) × IsFirst ((IsAnyActive s, Error.TxnsActive) ∷ []) None = not_refused first in
      by_step _ step d.1 (λ l. (not_indexed s.life f.0, quiet s (not_refused f.1).0)) last
  due_enabled Event.Build reply step known proper first d last =
      subst (IsEnabledAny s) (sym d.3) (build_enabled d.0 d.1 (subst (λ o. IsFirst (refusals_of s k o) None) d.3 last))
  due_enabled Event.Clean reply step known proper first d last = by_step _ step d.3 (λ l. clean_enabled d.0 d.1) last
  due_enabled (Event.Get r) reply step known proper first d last = subst (IsEnabledAny s) (sym d.1) tt
  due_enabled (Event.Find key) reply step known proper first d last = subst (IsEnabledAny s) (sym d.3) tt
  due_enabled Event.Life reply step known proper first d last = subst (IsEnabledAny s) (sym d.1) tt
  due_enabled Event.Drop reply step known proper first d last =
      let f : (s.life ≡ Absent → ⊥) × IsFirst ((IsAnyActive s, Error.TxnsActive) ∷ []) None = not_refused first in
      by_step _ step d.1 (λ l. (f.0, quiet s (not_refused f.1).0)) last
