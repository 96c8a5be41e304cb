-- Events that are to be skipped.
use Rattle.core_model.specs.Changes.{as_list}
use Rattle.std.proofs.Common.{None, Option, Some, [], ap, inl, inr, refl, subst, sym, ℕ, ◌∙◌, ◌≡◌, ◌≢◌}
use Rattle.record_values.specs.Values.{Place}
use Rattle.record_values.specs.declared.row.Row.{Row}
use Rattle.txn_table.specs.Table.{TxnState, rolls}
use Rattle.txn_table.specs.declared.progress.Progress.{Progress}
use Rattle.txn_table.specs.declared.progress.Progress.TheVariants.{OwesEntry, OwesRow, Ready, Rolling, UndoesEntry, UndoesRow}
use Rattle.core_model.specs.States.{Active, State}
use Rattle.core_model.specs.Steps.{IsReady, txn_at}
use Rattle.core_model.specs.Events.{Event, Skipped, Standing}
use Rattle.core_model.specs.Replies.{IsOfNone, IsProper, Owes, skipped}
use Rattle.core_parts.specs.View.{CoreValue, IsProgressOf, Serves, Shows}
use Rattle.core_parts.specs.Moves.{IsUnready, OwesNone, txn_shown}
use Rattle.core_parts.proofs.Due.{still}
use Rattle.core_parts.proofs.Moved.{at, known, listed, one}

-- a machine's transaction that is ready shows a progress that is
ready_by : (p : Progress) (a : Active) → IsProgressOf p a.phase → a.rolling ≡ rolls p → IsReady a → p ≡ Ready
ready_by Ready a phase rolling ready = refl
ready_by OwesRow a phase rolling ready = absurd cc
ready_by OwesEntry a phase rolling ready = absurd cc
ready_by Rolling a phase rolling ready = absurd cc
ready_by UndoesRow a phase rolling ready = absurd cc
ready_by UndoesEntry a phase rolling ready = absurd cc

owes_by : (p : Progress) (a : Active) → IsProgressOf p a.phase → a.rolling ≡ rolls p → p ≢ OwesRow → p ≢ OwesEntry → Owes a → ⊥
owes_by Ready a phase rolling row entry (inl is, calm) = absurd cc
owes_by Ready a phase rolling row entry (inr is, calm) = absurd cc
owes_by OwesRow a phase rolling row entry owes = row refl
owes_by OwesEntry a phase rolling row entry owes = entry refl
owes_by Rolling a phase rolling row entry owes = absurd cc
owes_by UndoesRow a phase rolling row entry owes = absurd cc
owes_by UndoesEntry a phase rolling row entry owes = absurd cc

-- such an event of a transaction that the table knows
module _ (v : CoreValue) (e : Event) (improper : (s : State) (k : Standing) → Shows v s k → (IsOfNone s e → ⊥) × (IsProper s e → ⊥)) where
  skips : Serves v e Skipped v
  skips s k is = let both = improper s k is.shown in still v s k e Skipped is.shown refl (skipped both.0 both.1)

module _ (v : CoreValue) (t : ℕ) where
  -- it isn't ready
  not_ready : (o : Option TxnState) → txn_shown v t ≡ o → IsUnready o → (s : State) (k : Standing) → Shows v s k → (s.txns t ≡ None → ⊥)
      × (IsReady (txn_at s t) → ⊥)
  not_ready None here un s k h = absurd un
  not_ready (Some x) here un s k h = (
    known v s k h t x here,
    λ ready. let a = one v s k h t x here in un (ready_by x.progress a.0 a.2.phase a.2.rolling (subst IsReady (at v s k h t x here) ready)),
  )

  pub skips_insert : (row : Row) → IsUnready (txn_shown v t) → Serves v (Event.Insert t row) Skipped v
  skips_insert row un = skips v (Event.Insert t row) (not_ready (txn_shown v t) refl un)

  pub skips_delete : (r : Place) → IsUnready (txn_shown v t) → Serves v (Event.Delete t r) Skipped v
  skips_delete r un = skips v (Event.Delete t r) (not_ready (txn_shown v t) refl un)

  pub skips_update : (r : Place) (row : Row) → IsUnready (txn_shown v t) → Serves v (Event.Update t r row) Skipped v
  skips_update r row un = skips v (Event.Update t r row) (not_ready (txn_shown v t) refl un)

  pub skips_commit : IsUnready (txn_shown v t) → Serves v (Event.Commit t) Skipped v
  skips_commit un = skips v (Event.Commit t) (not_ready (txn_shown v t) refl un)

  owes_none : (o : Option TxnState) → txn_shown v t ≡ o → OwesNone o → (s : State) (k : Standing) → Shows v s k → (s.txns t ≡ None → ⊥)
      × (Owes (txn_at s t) → ⊥)
  owes_none None here none s k h = absurd none
  owes_none (Some x) here none s k h = (
    known v s k h t x here,
    λ owes. let a = one v s k h t x here in owes_by x.progress a.0 a.2.phase a.2.rolling none.0 none.1 (subst Owes (at v s k h t x here) owes),
  )

  pub skips_step : OwesNone (txn_shown v t) → Serves v (Event.Step t) Skipped v
  skips_step none = skips v (Event.Step t) (owes_none (txn_shown v t) refl none)

  pub skips_end : (x : TxnState) → txn_shown v t ≡ Some x → x.changes ≢ [] → Serves v (Event.End t) Skipped v
  skips_end x here some = skips v (Event.End t) (λ s k h. (known v s k h t x here, λ none. some (sym (listed v s k h t x here) ∙ ap as_list none)))
