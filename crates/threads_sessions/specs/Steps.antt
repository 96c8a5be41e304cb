-- What becomes of a session in a step of its seat.
use Rattle.std.specs.FinMap.{get}
use Rattle.std.specs.Option.{option_map}
use Rattle.std.specs.Prelude.{[], List, None, Option, map, option_and_then, true, ℕ, ◌++◌, ◌∷◌}
use Rattle.record_values.specs.Values.{Place}
use Rattle.model.specs.declared.write.Write.{Write}
use Rattle.core_parts.specs.Asked.{owed, progress_of}
use Rattle.core_parts.specs.View.{CoreValue}
use Rattle.core_parts.specs.declared.parts.Ticket.{Ticket}
use Rattle.threads_sessions.specs.declared.turn.Turn.{Turn}
use Rattle.threads_sessions.specs.Values.{ActiveValue, SessionValue, new_active, rows_of, with_active, with_write}
use Rattle.threads_sessions.specs.Values.{without}

-- the row that is at a place of the core now
abbrev pub row_now : CoreValue → Place → Write
row_now core r = record { rid = r; row = get core.heap.rows r }

-- this change, if the transaction owes a step of it
abbrev pub unfinished_in : CoreValue → ℕ → Write → Option Write
unfinished_in core txn change = option_map (λ step. change) (option_and_then owed (progress_of core txn))

-- ---- one transaction

-- the first step of a change is made: its place is held, with the row that is there now
abbrev pub change_seen : CoreValue → Write → ActiveValue → ActiveValue
change_seen core change a = record a {
  rows = with_write (row_now core change.rid) a.rows;
  unfinished = unfinished_in core a.txn change;
}

-- the rows that are now at these places
abbrev pub rows_now : CoreValue → List Write → List Write
rows_now core rows = map (λ w. row_now core w.rid) rows

-- the change, as long as a step of it is owed
abbrev pub still_unfinished : CoreValue → ℕ → Option Write → Option Write
still_unfinished core txn change = option_and_then (unfinished_in core txn) change

-- one more step of its unfinished change is made
abbrev pub step_seen : CoreValue → ActiveValue → ActiveValue
step_seen core a = record a { rows = rows_now core a.rows; unfinished = still_unfinished core a.txn a.unfinished }

-- a step that takes a change back is made, or none was left: it is rolling back, and has no change to finish
abbrev pub taken_back : CoreValue → ActiveValue → ActiveValue
taken_back core a = record a { rows = rows_now core a.rows; unfinished = None; rolling = true }

-- ---- the session

-- a transaction more
abbrev pub begun : SessionValue → ℕ → SessionValue
begun s txn = record s { active = s.active ++ new_active txn ∷ [] }

-- the first step of a change was made
abbrev pub changed : SessionValue → CoreValue → ℕ → Write → SessionValue
changed s core txn change = record s { active = with_active (change_seen core change) txn s.active }

-- a further step was made
abbrev pub stepped : SessionValue → CoreValue → ℕ → SessionValue
stepped s core txn = record s { active = with_active (step_seen core) txn s.active }

-- a step of an undo was made
abbrev pub rolling_back : SessionValue → CoreValue → ℕ → SessionValue
rolling_back s core txn = record s { active = with_active (taken_back core) txn s.active }

-- the transaction has ended
abbrev pub ended : SessionValue → ℕ → SessionValue
ended s txn = record s { active = without txn s.active }

-- it has committed, with this ticket
abbrev pub committed : SessionValue → ℕ → Ticket → SessionValue
committed s txn ticket = record s {
  commits = s.commits ++ record { ticket = ticket; writes = rows_of txn s.active } ∷ [];
  active = without txn s.active;
}

-- the index was created or dropped
abbrev pub with_turn : SessionValue → Turn → SessionValue
with_turn s turn = record s { turns = s.turns ++ turn ∷ [] }
