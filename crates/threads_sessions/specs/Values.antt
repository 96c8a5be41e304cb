-- What contracts see of a session.
use Rattle.std.specs.Prelude.{ℕ, Bool, false, List, [], ◌∷◌, ◌++◌, Option, Some, None, filter, not, is_some, ◌==◌, ◌&&◌}
use Rattle.std.specs.Prelude.{if◌then◌else◌, unwrap_or}
use Rattle.std.specs.Option.{option_map}
use Rattle.record_values.specs.Values.{Place}
use Rattle.model.specs.declared.write.Write.{Write}
use Rattle.core_parts.specs.declared.parts.Ticket.{Ticket}
use Rattle.threads_sessions.specs.declared.turn.Turn.{Turn}

-- a commit: its ticket, and the row that it left at each place that its transaction held
pub record CommitValue : Type 0 where
  pub ticket : Ticket
  pub writes : List Write

-- an active transaction: its number, the row that is now at each place that it holds, the place and the new row of a
-- change that it has not finished, and whether it is rolling back
pub record ActiveValue : Type 0 where
  pub txn : ℕ
  pub rows : List Write
  pub unfinished : Option Write
  pub rolling : Bool

-- the commits, the creations and droppings of the index, and the active transactions, each in the order in which they
-- came
pub record SessionValue : Type 0 where
  pub commits : List CommitValue
  pub turns : List Turn
  pub active : List ActiveValue

-- a session of a seat that has done nothing
abbrev pub empty_session : SessionValue
empty_session = record { commits = []; turns = []; active = [] }

-- a transaction as it begins
abbrev pub new_active : ℕ → ActiveValue
new_active txn = record { txn = txn; rows = []; unfinished = None; rolling = false }

-- whether it is at this place
abbrev pub is_at : Place → Write → Bool
is_at q w = (w.rid.page == q.page) && (w.rid.slot == q.slot)

-- the rows, with this one last in place of what was at its place
abbrev pub with_write : Write → List Write → List Write
with_write w rows = filter (λ v. not (is_at w.rid v)) rows ++ w ∷ []

-- the transaction of this number
abbrev pub active_of : ℕ → List ActiveValue → Option ActiveValue
active_of txn [] = None
active_of txn (a ∷ rest) = if txn == a.txn then Some a else active_of txn rest

-- the transactions, with the one of this number changed
abbrev pub with_active : (ActiveValue → ActiveValue) → ℕ → List ActiveValue → List ActiveValue
with_active f txn [] = []
with_active f txn (a ∷ rest) = if txn == a.txn then f a ∷ rest else a ∷ with_active f txn rest

-- the transactions without that of this number
abbrev pub without : ℕ → List ActiveValue → List ActiveValue
without txn active = filter (λ a. not (txn == a.txn)) active

-- the rows at the places that it holds
abbrev pub rows_of : ℕ → List ActiveValue → List Write
rows_of txn active = unwrap_or (option_map (λ a. a.rows) (active_of txn active)) []

-- whether the transaction is one of the seat's
abbrev pub is_active : SessionValue → ℕ → Bool
is_active s txn = is_some (active_of txn s.active)

-- whether a transaction may begin a change or commit
abbrev pub can_go_on : Option ActiveValue → Bool
can_go_on None = false
can_go_on (Some a) = not (is_some a.unfinished) && not a.rolling

-- active, with no unfinished change, and not rolling back
abbrev pub is_ready : SessionValue → ℕ → Bool
is_ready s txn = can_go_on (active_of txn s.active)

-- whether it has a change to finish
abbrev pub has_unfinished : Option ActiveValue → Bool
has_unfinished None = false
has_unfinished (Some a) = is_some a.unfinished

-- active, with an unfinished change
abbrev pub is_unfinished : SessionValue → ℕ → Bool
is_unfinished s txn = has_unfinished (active_of txn s.active)
