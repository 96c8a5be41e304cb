-- What the sessions of all seats and the core agree on.
use Rattle.std.specs.FinMap.{get}
use Rattle.std.specs.Prelude.{[], Bool, false, if◌then◌else◌, is_some, length, List, None, not, Option, slice_get, Some}
use Rattle.std.specs.Prelude.{true, unwrap_or, ℕ, ◌<◌, ◌==◌, ◌∷◌, ◌≡◌}
use Rattle.records.specs.RecordValue.{RecordValue}
use Rattle.record_values.specs.Values.{Place}
use Rattle.record_values.specs.declared.row.Row.{Row}
use Rattle.model.specs.Table.{written_at}
use Rattle.model.specs.declared.write.Write.{Write}
use Rattle.core_model.specs.Changes.{Changes, Unchanged, ◌▹◌}
use Rattle.core_model.specs.Histories.{Opened, write_of}
use Rattle.core_model.specs.States.{Active, Made, NewMarked, OldMarked, OldSet, Phase, RowSet, State}
use Rattle.core_model.specs.Events.{Event}
use Rattle.core_parts.specs.View.{CoreValue}
use Rattle.threads_sessions.specs.Values.{active_of, ActiveValue, is_at, SessionValue}
use Rattle.threads_register.specs.History.{AreOfHistory}
use Rattle.threads_register.specs.Register.{AreAllCommits, IsRegisterKept}

-- ---- one transaction

-- the row that these have for a place, if they have the place
abbrev pub row_at : Place → List Write → Option (Option Row)
row_at q [] = None
row_at q (w ∷ ws) = if is_at q w then Some w.row else row_at q ws

-- the row of a place with this holder, if the transaction is the holder
abbrev pub row_held : (t : ℕ) (holder : Option ℕ) → Option Row → Option (Option Row)
row_held t None row = None
row_held t (Some u) row = if t == u then Some row else None

-- whether a further step of the newest change is owed
abbrev pub is_owed : Phase → (rolling : Bool) → Bool
is_owed OldMarked rolling = not rolling
is_owed RowSet rolling = not rolling
is_owed Made rolling = false
is_owed (NewMarked applied) rolling = false
is_owed OldSet rolling = false

-- what the newest change sets, if there is one
abbrev pub newest_write : Changes → Option Write
newest_write Unchanged = None
newest_write (older ▹ c) = Some (write_of c)

-- the place and the new row of the change of which a transaction owes a step
abbrev pub owed_write : Active → Option Write
owed_write x = if is_owed x.phase x.rolling then newest_write x.changes else None

-- set in their order, these rows leave at each place the row that they have for it
abbrev pub IsOneEach : List Write → Type 0
IsOneEach rows = (q : Place) (v : Option Row) → written_at rows q v ≡ unwrap_or (row_at q rows) v

-- A session has of a transaction what the core has: just the places that it holds, each once with the row that is there
-- now; the change of which it owes a step; and whether it is rolling back.
pub record IsSeen (s : State) (t : ℕ) (a : ActiveValue) (x : Active) : Type 0 where
  pub rows : (q : Place) → row_at q a.rows ≡ row_held t (s.holder q) (get s.rows q)
  pub one_each : IsOneEach a.rows
  pub unfinished : a.unfinished ≡ owed_write x
  pub rolling : a.rolling ≡ x.rolling

-- both have the transaction, or neither
abbrev pub Agree : State → ℕ → Option ActiveValue → Option Active → Type 0
Agree s t None None = Unit {0}
Agree s t (Some a) (Some x) = IsSeen s t a x
Agree s t None (Some x) = ⊥
Agree s t (Some a) None = ⊥

-- ---- all of them

-- what a seat's session has of a transaction
abbrev pub active_in : ℕ → Option SessionValue → Option ActiveValue
active_in t None = None
active_in t (Some session) = active_of t session.active

-- a transaction in the session of a seat
abbrev pub seen_at : List SessionValue → (seat t : ℕ) → Option ActiveValue
seen_at book seat t = active_in t (slice_get book seat)

-- an active transaction is in the session of its owner, and in no other
abbrev pub AreOwned : State → List SessionValue → (owner : ℕ → ℕ) → Type 0
AreOwned s book owner = (seat t : ℕ) → seat < length book
    → Agree s t (seen_at book seat t) (if seat == owner t then s.txns t else None)

-- each active transaction has an owner among the seats
abbrev pub HaveOwners : State → List SessionValue → (owner : ℕ → ℕ) → Type 0
HaveOwners s book owner = (t : ℕ) → is_some (s.txns t) ≡ true → owner t < length book

-- a step of the builder or the cleaner, or a look
abbrev pub IsOfNoSeat : Event → Type 0
IsOfNoSeat Event.Build = Unit {0}
IsOfNoSeat Event.Clean = Unit {0}
IsOfNoSeat (Event.Get r) = Unit {0}
IsOfNoSeat (Event.Find key) = Unit {0}
IsOfNoSeat Event.Life = Unit {0}
IsOfNoSeat _ = ⊥

-- The core has replied to some calls since it was opened. Its active transactions are those of the sessions, each in
-- one of them; and its commits, and what was done to the index, are those of the sessions.
pub record IsRegister (o : Opened) (pushed : List RecordValue) (core : CoreValue)
    (book : List SessionValue) : Type 0 where
  pub kept : IsRegisterKept o pushed core
  pub owner : ℕ → ℕ
  pub owned : AreOwned kept.replied.state book owner
  pub owners : HaveOwners kept.replied.state book owner
  pub commits : AreAllCommits book core.commits
  pub history : AreOfHistory o kept.calls core.last book commits.commits
