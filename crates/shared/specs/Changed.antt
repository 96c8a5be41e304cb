-- What a change of a transaction makes of its seat's session.
use Rattle.std.specs.Prelude.{Bool, false, is_some, None, Option, Some, true, ℕ, ◌≡◌, ◌≢◌, ◌⊎◌}
use Rattle.record_values.specs.Values.{Place}
use Rattle.record_values.specs.declared.error.Error.{Error}
use Rattle.record_values.specs.declared.row.Row.{Row}
use Rattle.model.specs.declared.write.Write.{Write}
use Rattle.threads_register.specs.Agreement.{row_at}
pub use Rattle.threads_register.specs.Reading.{unfinished_of}
use Rattle.threads_sessions.specs.Steps.{ended}
use Rattle.threads_sessions.specs.Values.{active_of, ActiveValue, is_active, is_ready, rows_of, SessionValue}

-- the row that the session has for a place, if the transaction holds the place
abbrev pub row_of : SessionValue → (txn : ℕ) → Place → Option (Option Row)
row_of s txn q = row_at q (rows_of txn s.active)

-- Some steps of this change of a transaction are made. The rows at all other places, the other transactions, the
-- commits and what was done to the index are as before. If a step is left, the change is the transaction's unfinished
-- one; and else its row is there, and the transaction may begin another change. A row that the transaction had at the
-- place stays there, or the change's row is.
pub record IsUnderWay (old : SessionValue) (txn : ℕ) (change : Write) (new : SessionValue) : Type 0 where
  pub others : ended new txn ≡ ended old txn
  pub rows : (q : Place) → q ≢ change.rid → row_of new txn q ≡ row_of old txn q
  pub unfinished : unfinished_of new txn ≢ None → unfinished_of new txn ≡ Some change
  pub row : unfinished_of new txn ≡ None → row_of new txn change.rid ≡ Some change.row
  pub ready : unfinished_of new txn ≡ None → is_ready new txn ≡ true
  pub stays : (before : Option Row) → row_of old txn change.rid ≡ Some before
      → ∥ (row_of new txn change.rid ≡ Some before) ⊎ (row_of new txn change.rid ≡ Some change.row) ∥₁

-- All its steps are made, or where one was refused some of them, and the change is left to finish.
abbrev pub HasChanged : SessionValue → (txn : ℕ) → (change : Write) → (refusal : Option Error) → SessionValue → Type 0
HasChanged old txn change None new = IsUnderWay old txn change new × (unfinished_of new txn ≡ None)
HasChanged old txn change (Some e) new = IsUnderWay old txn change new × (unfinished_of new txn ≡ Some change)

-- whether a transaction is rolling back
abbrev pub goes_back : Option ActiveValue → Bool
goes_back None = false
goes_back (Some a) = a.rolling

-- active, and rolling back
abbrev pub is_rolling : SessionValue → (txn : ℕ) → Bool
is_rolling s txn = goes_back (active_of txn s.active)

-- The transaction is rolling back, and holds the places that it held. The other transactions, the commits and what was
-- done to the index are as before.
pub record IsGoingBack (old : SessionValue) (txn : ℕ) (new : SessionValue) : Type 0 where
  pub others : ended new txn ≡ ended old txn
  pub active : is_active new txn ≡ true
  pub rolling : is_rolling new txn ≡ true
  pub places : (q : Place) → is_some (row_of new txn q) ≡ is_some (row_of old txn q)
