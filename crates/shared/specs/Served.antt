-- What happened under the lock.
use Rattle.std.specs.FinMap.{get}
use Rattle.std.specs.Prelude.{List, Option, slice_get, Some, ℕ, [], ◌∷◌, ◌≡◌, ◌⊎◌}
use Rattle.records.specs.RecordValue.{RecordValue}
use Rattle.record_values.specs.Values.{Place}
use Rattle.record_values.specs.declared.row.Row.{Row}
use Rattle.core_model.specs.Events.{Event, Reply}
use Rattle.model.specs.declared.write.Write.{Write}
use Rattle.core_laws.specs.Holds.{committed_rows}
use Rattle.core_model.specs.Histories.{Opened}
use Rattle.core_parts.specs.Moves.{HasNoChange, txn_shown}
use Rattle.core_parts.specs.View.{CoreValue, Serves}
use Rattle.threads_sessions.specs.Steps.{rolling_back}
use Rattle.threads_sessions.specs.Values.{SessionValue}
use Rattle.threads_register.specs.Reading.{ReadsBack}
use Rattle.locked_core.specs.Names.{IsShared}
use Rattle.shared.specs.Changed.{IsGoingBack, row_of}

-- A core that may lie under the lock, with records pushed and with sessions, replies so to this call.
pub record WasServed (o : Opened) (e : Event) (reply : Reply) : Type 0 where
  pub core : CoreValue
  pub new : CoreValue
  pub pushed : List RecordValue
  pub book : List SessionValue
  pub shared : IsShared o core pushed book
  pub serves : Serves core e reply new

-- And so to a call of a seat that has this session among those sessions.
pub record WasServedTo (o : Opened) (seat : ℕ) (session : SessionValue) (e : Event) (reply : Reply) : Type 0 where
  pub core : CoreValue
  pub new : CoreValue
  pub pushed : List RecordValue
  pub book : List SessionValue
  pub shared : IsShared o core pushed book
  pub here : slice_get book seat ≡ Some session
  pub serves : Serves core e reply new

-- A change was begun so of a seat that had the one session, and now has the other: there its place has the row that the
-- change asked for, or as long as the change is to be finished the row that the core had there.
pub record WasChanged (o : Opened) (seat : ℕ) (old : SessionValue) (e : Event) (txn : ℕ) (change : Write)
    (new : SessionValue) : Type 0 where
  pub begun : WasServedTo o seat old e Reply.Stepped
  pub row : ReadsBack (get begun.core.heap.rows change.rid) txn change new

-- The end of a transaction of the seat was served so, while the seat had this session of it: no change was left to take
-- back, and each place that it held had its committed row.
pub record WasTakenBack (o : Opened) (seat : ℕ) (session : SessionValue) (txn : ℕ) : Type 0 where
  pub end : WasServedTo o seat session (Event.End txn) Reply.Ended
  pub none_left : HasNoChange (txn_shown end.core txn)
  pub rows : (q : Place) (row : Option Row) → row_of session txn q ≡ Some row → row ≡ get (committed_rows end.core) q

-- A step that takes a change of the transaction back was served so, while the seat had the first session. In the other
-- one the transaction is rolling back, and has at each place that it holds the row that the step left there.
pub record WasUndone (o : Opened) (seat : ℕ) (old : SessionValue) (txn : ℕ) (new : SessionValue) : Type 0 where
  pub undo : WasServedTo o seat old (Event.Undo txn) Reply.Undone
  pub session : new ≡ rolling_back old undo.new txn

-- These sessions came one after another, each by an undo step from the one before it.
abbrev pub AreUndone : Opened → (seat : ℕ) → SessionValue → (txn : ℕ) → List SessionValue → SessionValue → Type 0
AreUndone o seat old txn [] new = new ≡ old
AreUndone o seat old txn (next ∷ rest) new = WasUndone o seat old txn next × AreUndone o seat next txn rest new

-- Undo steps, or none, were made of the seat's transaction, and each of them is made still.
pub record HasUndone (o : Opened) (seat : ℕ) (old : SessionValue) (txn : ℕ) (new : SessionValue) : Type 0 where
  pub sessions : List SessionValue
  pub undone : AreUndone o seat old txn sessions new

-- And so it was, after undo steps or none, of a seat that had the other session at first.
pub record WasAborted (o : Opened) (seat : ℕ) (old : SessionValue) (txn : ℕ) : Type 0 where
  pub last : SessionValue
  pub back : (last ≡ old) ⊎ IsGoingBack old txn last
  pub undone : HasUndone o seat old txn last
  pub taken : WasTakenBack o seat last txn
