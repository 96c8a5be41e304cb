-- What the sessions of all seats say of the history that the core's calls tell.
use Rattle.std.specs.Prelude.{[], filter, length, List, map, nat_le, slice_get, Some, take, ℕ, ◌++◌, ◌-◌, ◌<◌, ◌∷◌, ◌≡◌}
use Rattle.std.specs.Prelude.{◌≤◌}
use Rattle.records.specs.RecordValue.{RecordValue}
use Rattle.model.specs.Given.{given_after}
use Rattle.model.specs.History.{Checkpointed, Committed, Completed, Created, Deed, Dropped, Item}
use Rattle.model.specs.Table.{applied, Table}
use Rattle.model.specs.declared.write.Write.{Write}
use Rattle.core_model.specs.Histories.{no_writes, Opened}
use Rattle.core_model.specs.Events.{Event, Reply}
use Rattle.core_model.specs.Served.{items_of}
use Rattle.core_laws.specs.Holds.{committed_rows}
use Rattle.core_parts.specs.View.{CoreValue}
use Rattle.threads_sessions.specs.Values.{SessionValue}
use Rattle.threads_sessions.specs.declared.turn.Turn.{Turn}
use Rattle.threads_register.specs.Register.{AreBySeats, Commits, made_by}

-- ---- the table of commits

-- the table with the rows of these commits set over it, one commit after the other
abbrev pub with_commits : Table → Commits → Table
with_commits table [] = table
with_commits table (c ∷ cs) = with_commits (applied table c.1.writes) cs

-- those of them whose records have a number up to this one
abbrev pub commits_up_to : ℕ → Commits → Commits
commits_up_to number commits = filter (λ c. nat_le c.1.ticket.«record» number) commits

-- ---- the commits of a history, and the creations and droppings of the index

-- the number of the record of a commit, and what it writes
abbrev pub commit_told : ℕ → Deed → List (ℕ × List Write)
commit_told number (Committed writes) = (number, writes) ∷ []
commit_told number Created = []
commit_told number (Checkpointed pair) = []
commit_told number Completed = []
commit_told number Dropped = []

-- the commits of a history, each with its number and what it writes
abbrev pub commits_told : List Item → List (ℕ × List Write)
commits_told [] = []
commits_told (item ∷ items) = commit_told item.number item.deed ++ commits_told items

-- what a deed did to the index, with its number
abbrev pub turn_told : ℕ → Deed → List Turn
turn_told number (Committed writes) = []
turn_told number Created = Turn.Created number ∷ []
turn_told number (Checkpointed pair) = []
turn_told number Completed = []
turn_told number Dropped = Turn.Dropped number ∷ []

-- what is done to the index, in order
abbrev pub turns_told : List Item → List Turn
turns_told [] = []
turns_told (item ∷ items) = turn_told item.number item.deed ++ turns_told items

-- ---- they are those of the sessions

-- One after the other over this table, these commits are those that a history tells: each has the number of the
-- commit's record, and its rows leave the table that the commit's writes leave.
abbrev pub AreThose : Table → List (ℕ × List Write) → Commits → Type 0
AreThose table [] [] = Unit {0}
AreThose table (told ∷ more) (c ∷ cs) = (c.1.ticket.«record» ≡ told.0)
    × (applied table c.1.writes ≡ applied table told.1) × AreThose (applied table told.1) more cs
AreThose table [] (c ∷ cs) = ⊥
AreThose table (told ∷ more) [] = ⊥

-- the numbers of their records rise, from above the one to at most the other
abbrev pub AreRisingTo : (from to : ℕ) → Commits → Type 0
AreRisingTo from to [] = from ≤ to
AreRisingTo from to (c ∷ cs) = (from < c.1.ticket.«record») × AreRisingTo c.1.ticket.«record» to cs

-- What was done to the index is what all sessions have, each with the seat that did it; and a session has what its seat
-- did.
pub record AreAllTurns (book : List SessionValue) (all : List Turn) : Type 0 where
  pub turns : List (ℕ × Turn)
  pub told : map (λ (c : ℕ × Turn). c.1) turns ≡ all
  pub by_seats : AreBySeats (length book) turns
  pub in_sessions : (seat : ℕ) (session : SessionValue) → slice_get book seat ≡ Some session
      → session.turns ≡ made_by seat turns

-- The commits of all sessions, in the order of their numbers, are those of the history that these calls tell, up to the
-- record of this number; and what the sessions did to the index is what it tells of that.
pub record AreOfHistory (o : Opened) (calls : List (Event × Reply)) (last : ℕ) (book : List SessionValue)
    (commits : Commits) : Type 0 where
  pub those : AreThose o.given.table (commits_told (items_of no_writes calls)) commits
  pub rising : AreRisingTo o.given.last last commits
  pub turns : AreAllTurns book (turns_told (items_of no_writes calls))

-- ---- what whoever gets at the core finds

-- For each record number from that of the opening on, the records up to it, with the uncommitted changes taken back,
-- give the table of the opening with the commits up to it set over it in order. With all records that is the core's
-- committed table.
pub record ShowsCommits (o : Opened) (records : List RecordValue) (core : CoreValue) (commits : Commits) : Type 0 where
  pub recovered : (number : ℕ) → o.given.last ≤ number
      → (given_after o.given (take (number - o.given.last) records)).table
      ≡ with_commits o.given.table (commits_up_to number commits)
  pub committed : committed_rows core ≡ with_commits o.given.table commits
