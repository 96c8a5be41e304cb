-- A transaction of one change that is made in one hold of the lock.
use Rattle.std.specs.Prelude.{[], List, None, Option, replicate, slice_get, Some, true, ℕ, ◌++◌, ◌∷◌, ◌≡◌, ◌≢◌, ◌⊎◌}
use Rattle.records.specs.RecordValue.{RecordValue}
use Rattle.record_values.specs.Values.{Place}
use Rattle.record_values.specs.declared.error.Error.{Error}
use Rattle.record_values.specs.declared.row.Row.{Row}
use Rattle.model.specs.declared.write.Write.{Write}
use Rattle.core_model.specs.Events.{Event, Refused, Reply, Stepped, Undone}
use Rattle.core_model.specs.Histories.{Opened}
use Rattle.core_parts.specs.Replies.{reply_of_ticket}
use Rattle.core_parts.specs.View.{CoreValue, Serves}
use Rattle.core_parts.specs.declared.parts.Ticket.{Ticket}
use Rattle.threads_sessions.specs.Steps.{ended}
use Rattle.threads_sessions.specs.Values.{is_active, is_ready, rows_of, SessionValue}
use Rattle.locked_core.specs.Names.{IsShared}
use Rattle.shared.specs.Changed.{unfinished_of}
use Rattle.shared.specs.declared.one_change.OneChange.{OneChange}
use Rattle.shared.specs.declared.one_change.OneChange.TheVariants.{Put, Remove, Replace}

-- ---- the calls

-- these calls were served one after another
abbrev pub AreServed : CoreValue → List (Event × Reply) → CoreValue → Type 0
AreServed old [] new = new ≡ old
AreServed old (call ∷ rest) new = (next : CoreValue) × Serves old call.0 call.1 next × AreServed next rest new

-- A core that may lie under the lock, with sessions among which the seat has this one, served these calls, and nothing
-- between.
pub record WereServedTo (o : Opened) (seat : ℕ) (session : SessionValue) (calls : List (Event × Reply)) : Type 0 where
  pub core : CoreValue
  pub new : CoreValue
  pub pushed : List RecordValue
  pub book : List SessionValue
  pub shared : IsShared o core pushed book
  pub here : slice_get book seat ≡ Some session
  pub served : AreServed core calls new

-- so many further steps of a change, and then this call
abbrev pub last_calls : (txn steps : ℕ) → Event → Reply → List (Event × Reply)
last_calls txn steps e reply = replicate steps (Event.Step txn, Stepped) ++ (e, reply) ∷ []

-- so many further steps, and where one more was refused that one
abbrev pub step_calls : (txn steps : ℕ) → (refusal : Option Error) → List (Event × Reply)
step_calls txn steps None = replicate steps (Event.Step txn, Stepped)
step_calls txn steps (Some e) = last_calls txn steps (Event.Step txn) (Refused e)

-- A transaction began, made this change with all its steps, and committed.
pub record WasMade (o : Opened) (seat : ℕ) (session : SessionValue) (change : ℕ → Event) (reply : Reply)
    (ticket : Ticket) : Type 0 where
  pub txn : ℕ
  pub steps : ℕ
  pub calls : WereServedTo o seat session ((Event.Begin, Reply.Txn txn) ∷ (change txn, reply)
      ∷ last_calls txn steps (Event.Commit txn) (reply_of_ticket ticket))

-- the reply to the first step of a change that is made: the place of an insertion, or that it is made
abbrev pub HasStarted : Event → Reply → Type 0
HasStarted (Event.Insert txn row) reply = (rid : Place) × (reply ≡ Reply.Rid rid)
HasStarted _ reply = reply ≡ Stepped

-- the calls of a transaction that began, the last of which was refused: its change, a further step or its commit
pub data AreRefused : (txn : ℕ) → Event → Error → List (Event × Reply) → Type 0 where
  at_change : (txn : ℕ) (e : Event) (error : Error) → AreRefused txn e error ((e, Refused error) ∷ [])
  at_step : (txn : ℕ) (e : Event) (error : Error) (reply : Reply) (steps : ℕ) → HasStarted e reply
      → AreRefused txn e error ((e, reply) ∷ last_calls txn steps (Event.Step txn) (Refused error))
  at_commit : (txn : ℕ) (e : Event) (error : Error) (reply : Reply) (steps : ℕ) → HasStarted e reply
      → AreRefused txn e error ((e, reply) ∷ last_calls txn steps (Event.Commit txn) (Refused error))

-- To begin was refused, or one of those calls.
abbrev pub WasRefused : Opened → (seat : ℕ) → SessionValue → (change : ℕ → Event) → Error → Type 0
WasRefused o seat session change error = WereServedTo o seat session ((Event.Begin, Refused error) ∷ [])
    ⊎ ((txn : ℕ) × (calls : List (Event × Reply)) × AreRefused txn (change txn) error calls
    × WereServedTo o seat session ((Event.Begin, Reply.Txn txn) ∷ calls))

-- so many steps by which a transaction is taken back, and then this call
abbrev pub undo_calls : (txn undone : ℕ) → Event → Reply → List (Event × Reply)
undo_calls txn undone e reply = replicate undone (Event.Undo txn, Undone) ++ (e, reply) ∷ []

-- a call by which a transaction is taken back
abbrev pub TakesBack : (txn : ℕ) → Event → Type 0
TakesBack txn e = (e ≡ Event.Undo txn) ⊎ (e ≡ Event.End txn)

-- A core that may lie under the lock serves the beginning of a transaction, and its calls, the last of which it
-- refuses. Then it serves so many steps by which that is taken back, and refuses a further one, or the end.
pub record WasLeft (o : Opened) (seat : ℕ) (session : SessionValue) (change : ℕ → Event) (error : Error)
    (txn : ℕ) : Type 0 where
  pub calls : List (Event × Reply)
  pub refused : AreRefused txn (change txn) error calls
  pub undone : ℕ
  pub last : Event
  pub takes_back : TakesBack txn last
  pub why : Error
  pub served : WereServedTo o seat session
      ((Event.Begin, Reply.Txn txn) ∷ (calls ++ undo_calls txn undone last (Refused why)))

-- ---- the session

-- the session with one commit more, of this row alone
abbrev pub with_commit : SessionValue → Ticket → Write → SessionValue
with_commit s ticket w = record s { commits = s.commits ++ record { ticket = ticket; writes = w ∷ [] } ∷ [] }

-- the session has this transaction beside all that the old one has
pub record IsLeft (old : SessionValue) (txn : ℕ) (new : SessionValue) : Type 0 where
  pub others : ended new txn ≡ old
  pub active : is_active new txn ≡ true

-- The transaction has begun this change and no other. If a step of it is left, the change is the transaction's
-- unfinished one. Else its row is there, and the transaction may commit.
pub record IsChanging (s : SessionValue) (txn : ℕ) (change : Write) : Type 0 where
  pub active : is_active s txn ≡ true
  pub row : Option Row
  pub place : rows_of txn s.active ≡ record { rid = change.rid; row = row } ∷ []
  pub unfinished : unfinished_of s txn ≢ None → unfinished_of s txn ≡ Some change
  pub made : unfinished_of s txn ≡ None → rows_of txn s.active ≡ change ∷ []
  pub ready : unfinished_of s txn ≡ None → is_ready s txn ≡ true

-- ---- what is asked

-- the first step that a transaction asks for
abbrev pub event_of : OneChange → (txn : ℕ) → Event
event_of (Put key body) txn = Event.Insert txn (record { key = key; body = body })
event_of (Remove rid) txn = Event.Delete txn rid
event_of (Replace rid key body) txn = Event.Update txn rid (record { key = key; body = body })

-- its answer
abbrev pub answer_of : OneChange → Place → Reply
answer_of (Put key body) rid = Reply.Rid rid
answer_of _ rid = Stepped

-- the row that is there in the end
abbrev pub row_asked : OneChange → Option Row
row_asked (Put key body) = Some (record { key = key; body = body })
row_asked (Remove rid) = None
row_asked (Replace rid key body) = Some (record { key = key; body = body })

-- its place: the one that is asked for, or this one
abbrev pub place_asked : OneChange → Place → Place
place_asked (Put key body) rid = rid
place_asked (Remove place) rid = place
place_asked (Replace place key body) rid = place

-- the change
abbrev pub change_of : OneChange → Place → Write
change_of asked rid = record { rid = place_asked asked rid; row = row_asked asked }
