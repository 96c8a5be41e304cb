-- Lists of events with their replies, and the history that they tell.
use Rattle.std.specs.FinMap.{len}
use Rattle.std.specs.Ordering.{nat_cmp}
use Rattle.std.specs.Prelude.{List, None, Option, Some, [], false, length, map, take, true, ℕ, ◌++◌, ◌+◌, ◌-◌, ◌<◌, ◌∷◌}
use Rattle.std.specs.Prelude.{◌≡◌, ◌≢◌, ◌≤◌}
use Rattle.records.specs.RecordValue.{RecordValue}
use Rattle.record_values.specs.Values.{Place}
use Rattle.record_values.specs.declared.number.TheConstants.{LAST_NUMBER}
use Rattle.record_values.specs.declared.txn.TheConstants.{TXNS_MAX}
use Rattle.record_values.specs.declared.pair.Pair.{Pair}
use Rattle.record_values.specs.declared.row.Row.{Row}
use Rattle.model.specs.Given.{Given, given_after}
use Rattle.model.specs.History.{Deed, Item}
use Rattle.model.specs.declared.write.Write.{Write}
use Rattle.core_model.specs.Events.{BuildReply, Built, Cleaner, Done, Empty, Ended, Event, Found, Idle, LifeIs}
use Rattle.core_model.specs.Events.{Placed, Refused, Rejected, Reply, Rid, RowIs, Scanned, Skipped, Standing}
use Rattle.core_model.specs.Events.{Stepped, Txn, Undone, standing_after, standing_at}
use Rattle.core_model.specs.Records.{action_of}
use Rattle.core_model.specs.Replies.{IsAllowed, after_any}
use Rattle.core_model.specs.Logs.{HasMade, next_number, one_record}
use Rattle.core_model.specs.Histories.{Opened, no_writes, opened}
use Rattle.core_model.specs.Invariants.{IsWellFormed}
use Rattle.core_model.specs.States.{Active, State}
use Rattle.core_model.specs.Steps.{IsBuilding, IsEnabled, MachineStep, update}

-- the record of a step after the record `last`; none where no step is made, or one that makes no record
abbrev pub records_by : State → ℕ → Option MachineStep → List RecordValue
records_by s last None = []
records_by s last (Some e) = one_record last (action_of s e)

-- One event after another, each with an allowed reply; and the records that are made with these replies, in their
-- order.
pub data ServesAll : State → Standing → List (Event × Reply) → List RecordValue → State → Standing → Type 0 where
  nothing : {s : State} {k : Standing} → ServesAll s k [] [] s k
  served : {s new : State} {k next : Standing} (e : Event) (reply : Reply) (step : Option MachineStep)
      (rest : List (Event × Reply)) (made : List RecordValue) → IsAllowed s k e reply step
      → ServesAll (after_any s step) (standing_after k reply) rest made new next
      → ServesAll s k ((e, reply) ∷ rest) (records_by s k.made step ++ made) new next

-- What is given is what the first of the records that are made with these replies, up to its last one, make of what was
-- opened: so its entries are, marked ones too.
pub record IsMadeOf (o : Opened) (pairs : List (Event × Reply)) (given : Given) : Type 0 where
  pub made : List RecordValue
  pub state : State
  pub standing : Standing
  pub served : ServesAll (opened o) (standing_at o.given.last) pairs made state standing
  pub same : given ≡ given_after o.given (take (given.last - o.given.last) made)

-- a transaction is asked for one write more
abbrev pub one_write : (ℕ → List Write) → ℕ → Place → Option Row → ℕ → List Write
one_write writes t r row = update nat_cmp writes t (writes t ++ record { rid = r; row = row } ∷ [])

-- what each transaction was asked to set, after an event that was accepted; an insertion learns its place
abbrev pub asked_by : (ℕ → List Write) → Option Place → Event → ℕ → List Write
asked_by writes place Event.Begin = writes
asked_by writes None (Event.Insert t row) = writes
asked_by writes (Some r) (Event.Insert t row) = one_write writes t r (Some row)
asked_by writes place (Event.Delete t r) = one_write writes t r None
asked_by writes place (Event.Update t r row) = one_write writes t r (Some row)
asked_by writes place (Event.Step t) = writes
asked_by writes place (Event.Undo t) = writes
asked_by writes place (Event.End t) = update nat_cmp writes t []
asked_by writes place (Event.Commit t) = update nat_cmp writes t []
asked_by writes place Event.Create = writes
asked_by writes place Event.Build = writes
asked_by writes place Event.Clean = writes
asked_by writes place (Event.Get r) = writes
asked_by writes place (Event.Find key) = writes
asked_by writes place Event.Life = writes
asked_by writes place Event.Drop = writes

-- and after an event with this reply: one that was skipped or refused asks for nothing
abbrev pub asked_after : (ℕ → List Write) → Reply → Event → ℕ → List Write
asked_after writes (Txn t) e = asked_by writes None e
asked_after writes (Rid r) e = asked_by writes (Some r) e
asked_after writes Stepped e = asked_by writes None e
asked_after writes Undone e = asked_by writes None e
asked_after writes Empty e = asked_by writes None e
asked_after writes Ended e = asked_by writes None e
asked_after writes (Reply.Committed n c) e = asked_by writes None e
asked_after writes (Reply.Ticketed n) e = asked_by writes None e
asked_after writes (Built b) e = asked_by writes None e
asked_after writes (Cleaner c) e = asked_by writes None e
asked_after writes (RowIs row) e = asked_by writes None e
asked_after writes (Found rids) e = asked_by writes None e
asked_after writes (LifeIs life) e = asked_by writes None e
asked_after writes Skipped e = writes
asked_after writes (Refused error) e = writes

-- the writes of the transaction that an event commits
abbrev pub commit_of : (ℕ → List Write) → Event → List Deed
commit_of writes Event.Begin = []
commit_of writes (Event.Insert t row) = []
commit_of writes (Event.Delete t r) = []
commit_of writes (Event.Update t r row) = []
commit_of writes (Event.Step t) = []
commit_of writes (Event.Undo t) = []
commit_of writes (Event.End t) = []
commit_of writes (Event.Commit t) = Deed.Committed (writes t) ∷ []
commit_of writes Event.Create = []
commit_of writes Event.Build = []
commit_of writes Event.Clean = []
commit_of writes (Event.Get r) = []
commit_of writes (Event.Find key) = []
commit_of writes Event.Life = []
commit_of writes Event.Drop = []

-- whether an event that gets a ticket creates the index or drops it
abbrev pub turn_of : Event → List Deed
turn_of Event.Create = Deed.Created ∷ []
turn_of Event.Drop = Deed.Dropped ∷ []
turn_of _ = []

-- what a step of the builder adds to the history
abbrev pub items_of_build : BuildReply → List Item
items_of_build (Scanned page) = []
items_of_build (Placed p) = []
items_of_build (Rejected p) = []
items_of_build (BuildReply.Marked p n) = record { number = n; deed = Deed.Checkpointed p } ∷ []
items_of_build (Done n) = record { number = n; deed = Deed.Completed } ∷ []
items_of_build Idle = []

-- what a reply adds to the history: a commit, a creation, a checkpoint, the end of a build or a dropping, with the
-- number of its record
abbrev pub items_at : (ℕ → List Write) → Reply → Event → List Item
items_at writes (Txn t) e = []
items_at writes (Rid r) e = []
items_at writes Stepped e = []
items_at writes Undone e = []
items_at writes Empty e = []
items_at writes Ended e = []
items_at writes (Reply.Committed n c) e = map (λ deed. record { number = n; deed = deed }) (commit_of writes e)
items_at writes (Reply.Ticketed n) e = map (λ deed. record { number = n; deed = deed }) (turn_of e)
items_at writes (Built b) e = items_of_build b
items_at writes (Cleaner c) e = []
items_at writes (RowIs row) e = []
items_at writes (Found rids) e = []
items_at writes (LifeIs life) e = []
items_at writes Skipped e = []
items_at writes (Refused error) e = []

-- the history that these events and replies tell
abbrev pub items_of : (ℕ → List Write) → List (Event × Reply) → List Item
items_of writes [] = []
items_of writes (p ∷ rest) = items_at writes p.1 p.0 ++ items_of (asked_after writes p.1 p.0) rest

-- the active transactions are as many as the replies count, and each one that is over made a record
pub record HasCounts (s : State) (k : Standing) : Type 0 where
  pub active : k.active ≡ len s.pledges
  pub few : k.active ≤ TXNS_MAX
  pub ended : k.begun ≤ k.made + k.active

-- no page was taken twice: what one gave it did not miss, and one that was not taken did neither
pub record AreTakenOnce (s : State) : Type 0 where
  pub given : (p : Pair) → s.given p ≡ true → (s.taken p.rid.page ≡ true) × (s.missed p ≡ false)
  pub missed : (p : Pair) → s.missed p ≡ true → s.taken p.rid.page ≡ true

-- what the standing says of the state
pub record HasStanding (s : State) (k : Standing) : Type 0 where
  pub begun : (t : ℕ) (x : Active) → s.txns t ≡ Some x → t ≤ k.begun
  pub in_a_row : k.scanned ≤ s.pages
  pub taken : (n : ℕ) → n < k.scanned → s.taken n ≡ true
  pub once : AreTakenOnce s
  pub tried : 1 ≤ k.attempts → IsBuilding s.life → s.bound ≢ None
  pub counts : HasCounts s k
  pub within : k.made ≤ LAST_NUMBER

-- what was asked of each transaction, after these events and replies
abbrev pub asked_over : (ℕ → List Write) → List (Event × Reply) → ℕ → List Write
asked_over writes [] = writes
asked_over writes (p ∷ rest) = asked_over (asked_after writes p.1 p.0) rest

-- The core has replied to these events so since it was opened, each reply one that was allowed then. These are the
-- records that it made with them, in the order of the replies, and their history is the one that the replies tell.
pub record HasServed (o : Opened) (made : List RecordValue) (pairs : List (Event × Reply)) (s : State)
    (k : Standing) : Type 0 where
  pub served : ServesAll (opened o) (standing_at o.given.last) pairs made s k
  pub log : HasMade o made (items_of no_writes pairs) (asked_over no_writes pairs) s
  pub number : k.made ≡ o.given.last + length made
  pub standing : HasStanding s k

-- the step may be made, if there is one
abbrev pub IsEnabledAny : State → Option MachineStep → Type 0
IsEnabledAny s None = Unit {0}
IsEnabledAny s (Some e) = IsEnabled s e

-- the number of the last record after a step, or after none
abbrev pub number_after : State → ℕ → Option MachineStep → ℕ
number_after s last None = last
number_after s last (Some e) = next_number last (action_of s e)

-- what is left by one step, or by none
pub record IsMove (s : State) (k : Standing) (step : Option MachineStep) (k' : Standing) : Type 0 where
  pub enabled : IsEnabledAny s step
  pub made : k'.made ≡ number_after s k.made step
  pub fit : IsWellFormed (after_any s step)
  pub standing : HasStanding (after_any s step) k'
