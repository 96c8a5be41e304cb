-- What a seat reads back of a change that it asked for.
use Rattle.std.specs.Prelude.{Option, Some, option_and_then, ℕ, ◌≡◌, ◌⊎◌}
use Rattle.record_values.specs.declared.row.Row.{Row}
use Rattle.model.specs.declared.write.Write.{Write}
use Rattle.threads_sessions.specs.Values.{ActiveValue, SessionValue, active_of, rows_of}
use Rattle.threads_register.specs.Agreement.{row_at}

-- the change that the transaction has not finished
abbrev pub unfinished_of : SessionValue → (txn : ℕ) → Option Write
unfinished_of session txn = option_and_then (λ (a : ActiveValue). a.unfinished) (active_of txn session.active)

-- the session has this row for a place that its transaction holds
abbrev pub ShowsRow : ℕ → Write → SessionValue → Type 0
ShowsRow txn w session = row_at w.rid (rows_of txn session.active) ≡ Some w.row

-- The session has the row that the change asked for; or, as long as that change is to be finished, the row that was
-- there before.
abbrev pub ReadsBack : (before : Option Row) → ℕ → Write → SessionValue → Type 0
ReadsBack before txn change session = ShowsRow txn change session
    ⊎ ((unfinished_of session txn ≡ Some change) × ShowsRow txn (record { rid = change.rid; row = before }) session)
