-- A step that a transaction owes.
use Rattle.std.proofs.Common.{◌≡◌, ◌⊎◌, ℕ, true, List, Option, None, Some, is_some, Result, Err, OnOk, OnErr, inl, inr, refl}
use Rattle.std.proofs.Math.Logic.{∥∥₁_elim}
use mathlib.Core.HLevel.{⊥_prop}
use Rattle.std.specs.Prelude.{false, slice_get, slice_set}
use Rattle.records.specs.RecordValue.{RecordValue}
use Rattle.record_values.specs.declared.error.Error.{Error}
use Rattle.record_values.specs.declared.error.Error.TheVariants.{NoSuchTxn}
use Rattle.model.specs.declared.write.Write.{Write}
use Rattle.core_model.specs.Histories.{Opened}
use Rattle.core_model.specs.Events.{Event, Reply}
use Rattle.txn_table.specs.Table.{TxnState}
use Rattle.txn_table.specs.declared.progress.Progress.{Progress}
use Rattle.txn_table.specs.declared.progress.Progress.TheVariants.{OwesEntry, OwesRow, Ready, Rolling, UndoesEntry, UndoesRow}
use Rattle.core_parts.specs.Replies.{reply_by}
use Rattle.core_parts.specs.View.{CoreValue, Serves}
use Rattle.core_parts.specs.Moves.{OwesOrNone, txn_shown}
use Rattle.threads_sessions.specs.Steps.{stepped}
use Rattle.threads_sessions.specs.Values.{active_of, ActiveValue, has_unfinished, is_active, is_unfinished, SessionValue}
use Rattle.threads_register.proofs.Laws.{next_agreed, unfinished_seen}
use Rattle.locked_core.proofs.Kept.{txn_kept}
use Rattle.locked_core.specs.Names.{IsShared}

pub next_kept : (o : Opened) (core new : CoreValue) (pushed : List RecordValue) (book : List SessionValue) (k : ℕ) (p q : SessionValue)
    (there : slice_get book k ≡ Some p) (shared : IsShared o core pushed book) (txn : ℕ) (result : Result (Unit {0}) Error)
    → (is_active p txn ≡ false → (result ≡ Err NoSuchTxn) × (new ≡ core))
    → (is_active p txn ≡ true → Serves core (Event.Step txn) (reply_by (λ _. Reply.Stepped) result) new)
    → OnOk result (q ≡ stepped p new txn) → OnErr result (q ≡ p) → IsShared o new pushed (slice_set book k q)
next_kept o core new pushed book k p q there shared txn result foreign is =
    txn_kept o core new pushed book k p q there shared txn (Event.Step txn) (λ _. Reply.Stepped) (λ _. stepped p new txn)
    (λ own done serves. next_agreed o shared.opens pushed core book shared.register k p there txn own new serves) result foreign is

-- ---- a transaction with a change to finish in its seat's session

owes_or_not : (m : Option TxnState) → OwesOrNone m ⊎ (OwesOrNone m → ⊥)
owes_or_not None = inl tt
owes_or_not (Some x) = by x.progress
  where
    other : (p : Progress) → (p ≡ OwesRow → ⊥) → (p ≡ OwesEntry → ⊥) → (p ≡ OwesRow) ⊎ (p ≡ OwesEntry) → ⊥
    other p a b (inl e) = a e
    other p a b (inr e) = b e

    by : (p : Progress) → ((p ≡ OwesRow) ⊎ (p ≡ OwesEntry)) ⊎ ((p ≡ OwesRow) ⊎ (p ≡ OwesEntry) → ⊥)
    by OwesRow = inl (inl refl)
    by OwesEntry = inl (inr refl)
    by Ready = inr (other Ready (λ e. (absurd cc)) (λ e. (absurd cc)))
    by Rolling = inr (other Rolling (λ e. (absurd cc)) (λ e. (absurd cc)))
    by UndoesRow = inr (other UndoesRow (λ e. (absurd cc)) (λ e. (absurd cc)))
    by UndoesEntry = inr (other UndoesEntry (λ e. (absurd cc)) (λ e. (absurd cc)))

pub owes_now : (o : Opened) (core : CoreValue) (pushed : List RecordValue) (book : List SessionValue) (k : ℕ) (p : SessionValue) → slice_get book k ≡ Some p
    → ∥ IsShared o core pushed book ∥₁ → (txn : ℕ) → is_unfinished p txn ≡ true → OwesOrNone (txn_shown core txn)
owes_now o core pushed book k p there shared txn unfinished = by (owes_or_not (txn_shown core txn))
  where
    seen : IsShared o core pushed book → (m : Option ActiveValue) → active_of txn p.active ≡ m → has_unfinished m ≡ true → OwesOrNone (txn_shown core txn)
    seen all None found none = absurd cc
    seen all (Some a) found some = change a.unfinished refl some
      where
        change : (w : Option Write) → a.unfinished ≡ w → is_some w ≡ true → OwesOrNone (txn_shown core txn)
        change None is none = absurd cc
        change (Some w) is some = unfinished_seen o all.opens pushed core book all.register k p there txn a found w is

    by : OwesOrNone (txn_shown core txn) ⊎ (OwesOrNone (txn_shown core txn) → ⊥) → OwesOrNone (txn_shown core txn)
    by (inl is) = is
    by (inr not) = absurd (∥∥₁_elim shared ⊥_prop (λ all. not (seen all (active_of txn p.active) refl unfinished)))
