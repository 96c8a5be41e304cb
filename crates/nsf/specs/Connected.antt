-- What commits leave of their seat, whose client waits for them.
use Rattle.std.specs.Prelude.{Err, Ok, Result, Some, ℕ, ◌≡◌, ◌≤◌}
use Rattle.record_values.specs.Values.{Place}
use Rattle.record_values.specs.declared.error.Error.{Error}
use Rattle.record_values.specs.declared.row.Row.{Row}
use Rattle.core_model.specs.Events.{Event, Reply}
use Rattle.core_model.specs.Histories.{Opened}
use Rattle.core_parts.specs.declared.parts.Ticket.{Ticket}
use Rattle.threads_sessions.specs.Steps.{committed}
use Rattle.shared.specs.AtOnce.{with_commit, WasMade}
use Rattle.shared.specs.Seats.{AckValue, SeatValue}
use Rattle.shared.specs.Waits.{IsNotAcked}
use Rattle.shared.specs.declared.one_change.Placed.{Placed}
use Rattle.shared.specs.declared.one_change.Refusal.{Refusal}
use Rattle.nsf.specs.declared.connection.CommitError.{CommitError}
use Rattle.nsf.specs.declared.connection.CommitError.TheVariants.{NotCommitted, NotSafe}
use Rattle.nsf.specs.declared.connection.PutError.{PutError}
use Rattle.nsf.specs.declared.connection.PutError.TheVariants.{NotPut, RowNotSafe}

-- the seat, as its transaction is committed
abbrev pub with_commit_of : SeatValue → (txn : ℕ) → Ticket → SeatValue
with_commit_of s txn ticket = record s { session = committed s.session txn ticket }

-- what the commit itself was answered
abbrev pub ticket_of : Result AckValue CommitError → Result Ticket Error
ticket_of (Ok ack) = Ok ack.ticket
ticket_of (Err (NotCommitted e)) = Err e
ticket_of (Err (NotSafe ticket e)) = Ok ticket

-- Nothing was committed, and the seat is as before. Or it is committed, and no acknowledgement came.
abbrev pub IsNotCommitted : (old : SeatValue) → (txn : ℕ) → (new : SeatValue) → CommitError → Type 0
IsNotCommitted old txn new (NotCommitted e) = new ≡ old
IsNotCommitted old txn new (NotSafe ticket e) = IsNotAcked ticket (with_commit_of old txn ticket) new e

abbrev pub commit_reason : CommitError → Error
commit_reason (NotCommitted e) = e
commit_reason (NotSafe ticket e) = e

-- the seat with a commit more, of this row alone
abbrev pub with_row : SeatValue → Row → Placed → SeatValue
with_row s row put = record s {
  session = with_commit s.session put.ticket (record { rid = put.rid; row = Some row });
}

-- a core that may lie under the lock has inserted the row, in a transaction that it then committed
abbrev pub WasPut : Opened → SeatValue → Row → Placed → Type 0
WasPut o s row put =
    ∥ WasMade o s.number s.session (λ txn. Event.Insert txn row) (Reply.Rid put.rid) put.ticket ∥₁

-- The row was put, at this place, and its commit is safe: the horizon that the seat has read reaches its record.
pub record IsSafelyPut (o : Opened) (old : SeatValue) (row : Row) (rid : Place) (new : SeatValue) : Type 0 where
  pub put : Placed
  pub place : put.rid ≡ rid
  pub was : WasPut o old row put
  pub seat : new ≡ record (with_row old row put) { sight = new.sight }
  pub safe : put.ticket.record ≤ new.sight.horizon

-- so it is of the refusal, where the row wasn't put
abbrev pub IfNotPut : (Refusal → Type 0) → PutError → Type 0
IfNotPut P (NotPut refusal) = P refusal
IfNotPut P (RowNotSafe put e) = Unit {0}

-- and of the row that was put, where no acknowledgement came
abbrev pub IfNotSafe : (Placed → Error → Type 0) → PutError → Type 0
IfNotSafe P (NotPut refusal) = Unit {0}
IfNotSafe P (RowNotSafe put e) = P put e

-- put, and no acknowledgement came
abbrev pub IsUnsafelyPut : Opened → (old : SeatValue) → Row → (new : SeatValue) → Placed → Error → Type 0
IsUnsafelyPut o old row new put e = WasPut o old row put × IsNotAcked put.ticket (with_row old row put) new e

abbrev pub put_reason : PutError → Error
put_reason (NotPut refusal) = refusal.error
put_reason (RowNotSafe put e) = e
