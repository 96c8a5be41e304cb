-- A core that many seats share, beside the records that were pushed and the sessions of all seats.
use Rattle.std.specs.Prelude.{[], if◌then◌else◌, length, List, slice_get, Some, ℕ, ◌+◌, ◌<◌, ◌==◌, ◌∷◌, ◌≡◌}
use Rattle.records.specs.RecordValue.{RecordValue}
use Rattle.core_model.specs.Histories.{Opened}
use Rattle.core_model.specs.Events.{Event, Reply}
use Rattle.core_parts.specs.View.{CoreValue}
use Rattle.core_laws.specs.Calls.{HasReplied}
use Rattle.threads_sessions.specs.Values.{CommitValue, SessionValue, empty_session}

-- The core has replied to some calls since it was opened, each reply one that was allowed then; and the records that
-- were pushed, with those that wait in it, are all that it made.
pub record IsRegisterKept (o : Opened) (pushed : List RecordValue) (core : CoreValue) : Type 0 where
  pub calls : List (Event × Reply)
  pub replied : HasReplied o calls pushed core

-- an event that commits nothing
abbrev pub IsNoCommit : Event → Type 0
IsNoCommit (Event.Commit t) = ⊥
IsNoCommit _ = Unit {0}

-- ---- the commits of all seats

-- commits in the order of their numbers, each with the seat that made it
abbrev pub Commits : Type 0
Commits = List (ℕ × CommitValue)

-- the numbers go on from n
abbrev pub AreNumbered : ℕ → Commits → Type 0
AreNumbered n [] = Unit {0}
AreNumbered n (c ∷ cs) = (c.1.ticket.commit ≡ Some n) × AreNumbered (n + 1) cs

-- those that a seat made, of things with the seat that made each
abbrev pub made_by : {A : Type 0} → ℕ → List (ℕ × A) → List A
made_by seat [] = []
made_by seat (c ∷ cs) = if seat == c.0 then c.1 ∷ made_by seat cs else made_by seat cs

-- each was made by one of so many seats
abbrev pub AreBySeats : {A : Type 0} → ℕ → List (ℕ × A) → Type 0
AreBySeats seats [] = Unit {0}
AreBySeats seats (c ∷ cs) = (c.0 < seats) × AreBySeats seats cs

-- The commits of all sessions have the numbers 1 to `count`, each once; and a session has those of its seat, in the
-- order of their numbers.
pub record AreAllCommits (book : List SessionValue) (count : ℕ) : Type 0 where
  pub commits : Commits
  pub numbered : AreNumbered 1 commits
  pub counted : count ≡ length commits
  pub by_seats : AreBySeats (length book) commits
  pub in_sessions : (seat : ℕ) (session : SessionValue) → slice_get book seat ≡ Some session
      → session.commits ≡ made_by seat commits

-- sessions as they are made
abbrev pub AreEmpty : List SessionValue → Type 0
AreEmpty book = (seat : ℕ) (session : SessionValue) → slice_get book seat ≡ Some session → session ≡ empty_session
