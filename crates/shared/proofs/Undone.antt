-- Undo steps of a transaction, for whoever was not under the lock.
use Rattle.std.proofs.Common.{◌≡◌, ◌++◌, ◌∷◌, [], List, ℕ, Option, Some, None, inl, inr, refl, sym, ap, ◌∙◌, subst}
use Rattle.std.proofs.Math.Logic.{∥∥₁_map, ∥∥₁_map₂}
use Rattle.std.specs.Prelude.{slice_get, unwrap_or}
use Rattle.records.specs.RecordValue.{RecordValue}
use Rattle.txn_table.specs.Table.{TxnState}
use Rattle.core_model.specs.Changes.{as_list, Unchanged}
use Rattle.core_model.specs.Histories.{Opened}
use Rattle.core_model.specs.States.{Active, State}
use Rattle.core_model.specs.Steps.{new_txn, txn_at}
use Rattle.core_model.specs.Events.{Event, Reply, Standing}
use Rattle.core_model.specs.Replies.{IsStepDue, IsProper}
use Rattle.core_parts.specs.Moves.{HasNoChange, txn_shown}
use Rattle.core_parts.specs.Undoing.{undone_reply}
use Rattle.core_parts.specs.View.{Answers, AreOne, CoreValue, Serves, Shows}
use Rattle.core_parts.specs.declared.reply.Undone.{Undone}
use Rattle.core_parts.specs.declared.reply.Undone.TheVariants.{Empty, Step}
use Rattle.threads_sessions.specs.Steps.{rolling_back}
use Rattle.threads_sessions.specs.Values.{SessionValue}
use Rattle.locked_core.specs.Names.{IsShared}
use Rattle.shared.specs.Served.{AreUndone, HasUndone, WasUndone}
use Rattle.shared.proofs.Advances.{due}

-- ---- one step

module _ (o : Opened) (core new : CoreValue) (pushed : List RecordValue) (book : List SessionValue) (t : ℕ) where
  -- a core that answers that nothing is left has nothing left
  nothing_left : IsShared o core pushed book → Serves core (Event.Undo t) Reply.Empty new → HasNoChange (txn_shown core t)
  nothing_left all serves = elim d.1.0 [
    | inl none ↦ by (txn_shown core t) (shown.txns t) none.0
    | inr some ↦ absurd (never some.1)
  ]
    where
      s : State
      s = all.register.kept.replied.state

      k : Standing
      k = all.register.kept.replied.standing

      shown : Shows core s k
      shown = all.register.kept.replied.stands.shown

      a : Answers core s k (Event.Undo t) Reply.Empty new
      a = serves s k all.register.kept.replied.stands

      d : IsProper s (Event.Undo t) × IsStepDue s k (Event.Undo t) Reply.Empty a.step
      d = due s k (Event.Undo t) Reply.Empty a.step a.allowed tt

      never : Reply.Empty ≡ Reply.Undone → ⊥
      never e = absurd cc

      by : (m : Option TxnState) → AreOne m (s.txns t) → (txn_at s t).changes ≡ Unchanged → HasNoChange m
      by None one none = tt
      by (Some y) one none =
          let here : txn_at s t ≡ one.0 = ap (λ (x : Option Active). unwrap_or x new_txn) one.1 in
          sym one.2.changes ∙ ap as_list (ap (λ (x : Active). x.changes) (sym here) ∙ none)

  -- where a change is left, a step takes something back
  is_step : IsShared o core pushed book → (HasNoChange (txn_shown core t) → ⊥) → (u : Undone) → Serves core (Event.Undo t) (undone_reply u) new
      → undone_reply u ≡ Reply.Undone
  is_step all left Step serves = refl
  is_step all left Empty serves = absurd (left (nothing_left all serves))

  -- and so it is served
  pub undo_served : IsShared o core pushed book → (HasNoChange (txn_shown core t) → ⊥) → (u : Undone) → Serves core (Event.Undo t) (undone_reply u) new
      → Serves core (Event.Undo t) Reply.Undone new
  undo_served all left u serves = subst (λ reply. Serves core (Event.Undo t) reply new) (is_step all left u serves) serves

  pub was_undone : ∥ IsShared o core pushed book ∥₁ → (seat : ℕ) (p q : SessionValue) → slice_get book seat ≡ Some p → (HasNoChange (txn_shown core t) → ⊥)
      → (u : Undone) → Serves core (Event.Undo t) (undone_reply u) new
      → q ≡ rolling_back p new t → ∥ WasUndone o seat p t q ∥₁
  was_undone shared seat p q there left u serves is = ∥∥₁_map shared (λ all. record {
    undo = record {
      core = core;
      new = new;
      pushed = pushed;
      book = book;
      shared = all;
      here = there;
      serves = undo_served all left u serves;
    };
    session = is;
  })

-- ---- one step after another

module _ (o : Opened) (seat t : ℕ) where
  pub none_undone : (p q : SessionValue) → q ≡ p → HasUndone o seat p t q
  none_undone p q same = record { sessions = []; undone = same }

  joined : (p q r : SessionValue) (first next : List SessionValue) → AreUndone o seat p t first q → AreUndone o seat q t next r
      → AreUndone o seat p t (first ++ next) r
  joined p q r [] next a b = subst (λ v. AreUndone o seat v t next r) a b
  joined p q r (x ∷ xs) next a b = (a.0, joined x q r xs next a.1 b)

  pub more_undone : (p q r : SessionValue) → HasUndone o seat p t q → HasUndone o seat q t r → HasUndone o seat p t r
  more_undone p q r a b = record { sessions = a.sessions ++ b.sessions; undone = joined p q r a.sessions b.sessions a.undone b.undone }

  pub step_undone : (p q r : SessionValue) → ∥ HasUndone o seat p t q ∥₁ → ∥ WasUndone o seat q t r ∥₁ → ∥ HasUndone o seat p t r ∥₁
  step_undone p q r some one = ∥∥₁_map₂ some one (λ a b. more_undone p q r a (record { sessions = r ∷ []; undone = (b, refl) }))

  pub stays_undone : (p q r : SessionValue) → ∥ HasUndone o seat p t q ∥₁ → r ≡ q → ∥ HasUndone o seat p t r ∥₁
  stays_undone p q r some same = subst (λ v. ∥ HasUndone o seat p t v ∥₁) (sym same) some
