-- A build that goes on to its end.
use Rattle.std.specs.List.{All}
use Rattle.std.specs.Prelude.{Err, IfSome, List, None, Ok, Option, Result, Some, ℕ, ◌+◌, []}
use Rattle.std.specs.Prelude.{◌++◌, ◌↔◌, ◌∷◌, ◌≡◌, ◌≢◌, ◌⊎◌}
use Rattle.std.specs.FinMap.{get}
use Rattle.marked_index.specs.Index.{IsFull}
use Rattle.records.specs.RecordValue.{RecordValue}
use Rattle.record_values.specs.declared.error.Error.{Error}
use Rattle.record_values.specs.declared.pair.Mark.TheVariants.{Live}
use Rattle.record_values.specs.declared.pair.Pair.{Pair}
use Rattle.model.specs.Table.{IsPairOf}
use Rattle.model.specs.declared.life.Life.TheVariants.{Complete}
use Rattle.core_model.specs.Histories.{CanOpen, Opened}
use Rattle.core_model.specs.States.{State}
use Rattle.core_model.specs.Events as core
use Rattle.core_model.specs.Events.{Standing}
use Rattle.core_model.specs.Served.{HasServed}
use Rattle.sector_device.specs.DevicePast.{DevicePast, LeavesOnly}
use Rattle.core_parts.specs.View.{CoreValue, IsState}
use Rattle.core_parts.specs.declared.parts.Ticket.{Ticket}
use Rattle.core_parts.specs.declared.reply.BuildReply.{BuildReply}
use Rattle.core_parts.specs.declared.reply.BuildReply.TheVariants as build
use Rattle.restart.specs.declared.parts.EngineParts.{EngineParts}
use Rattle.restart.specs.declared.event.Event.{Event}
use Rattle.restart.specs.declared.event.Event.TheVariants as event
use Rattle.restart.specs.declared.event.Reply.{Reply}
use Rattle.restart.specs.declared.event.Reply.TheVariants as reply
use Rattle.restart.specs.Lawful.{ServesInCore}
use Rattle.restart.specs.Parts.{core_of, device_of, horizon_of}
use Rattle.restart.specs.Store.{Past, IsAt, Survives, and_then}

-- ---- the steps

-- one request to build for each of these replies
abbrev pub builds : {M : Type 0} → List (Reply M) → List Event
builds [] = []
builds (r ∷ replies) = event.Build ∷ builds replies

-- each of these replies in turn is one that the core could give to a request to build
abbrev pub AreBuilt : {D M : Type 0} → List (Reply M) → EngineParts D M → EngineParts D M → Type 0
AreBuilt [] old new = new ≡ old
AreBuilt {D} {M} (r ∷ replies) old new = (mid : EngineParts D M) × ServesInCore core.Build r old mid
    × AreBuilt replies mid new

-- the ticket of the build's end, where the reply tells of it
abbrev pub end_of : BuildReply → Option Ticket
end_of (build.Scanned page) = None
end_of (build.Placed pair) = None
end_of (build.Rejected pair) = None
end_of (build.Marked pair ticket) = None
end_of (build.Done ticket) = Some ticket
end_of build.Idle = None

-- how many pages were taken in a row, after one step more
abbrev pub in_a_row : ℕ → BuildReply → ℕ
in_a_row scanned (build.Scanned page) = page + 1
in_a_row scanned (build.Placed pair) = 0
in_a_row scanned (build.Rejected pair) = 0
in_a_row scanned (build.Marked pair ticket) = scanned
in_a_row scanned (build.Done ticket) = scanned
in_a_row scanned build.Idle = scanned

-- a step that is not the last one: it took a page, attempted a pair, or made a checkpoint
abbrev pub GoesOnBuilding : BuildReply → Type 0
GoesOnBuilding (build.Scanned page) = Unit {0}
GoesOnBuilding (build.Placed pair) = Unit {0}
GoesOnBuilding (build.Rejected pair) = Unit {0}
GoesOnBuilding (build.Marked pair ticket) = Unit {0}
GoesOnBuilding (build.Done ticket) = ⊥
GoesOnBuilding build.Idle = ⊥

-- the reply tells of such a step
abbrev pub IsUnderway : {M : Type 0} → Reply M → Type 0
IsUnderway (reply.Txn t) = ⊥
IsUnderway (reply.Rid r) = ⊥
IsUnderway reply.Stepped = ⊥
IsUnderway reply.Undone = ⊥
IsUnderway reply.Empty = ⊥
IsUnderway reply.Ended = ⊥
IsUnderway (reply.Ticket t) = ⊥
IsUnderway (reply.Built b) = GoesOnBuilding b
IsUnderway (reply.Cleaned c) = ⊥
IsUnderway (reply.Horizon m) = ⊥
IsUnderway reply.LogFull = ⊥
IsUnderway reply.Copied = ⊥
IsUnderway (reply.Flipped m) = ⊥
IsUnderway reply.Again = ⊥
IsUnderway (reply.Row row) = ⊥
IsUnderway (reply.Found rids) = ⊥
IsUnderway (reply.Life life) = ⊥
IsUnderway reply.Skipped = ⊥
IsUnderway (reply.Refused e) = ⊥

-- this reply comes last, and each before it is of a step that is not the last one
pub record EndsWith {M : Type 0} (last : Reply M) (replies : List (Reply M)) : Type 0 where
  pub before : List (Reply M)
  pub all : replies ≡ before ++ last ∷ []
  pub underway : All IsUnderway before

-- where the index was complete already: no step, and the ticket of the last record made, if there is one
pub record WasComplete {M : Type 0} (answer : Option Ticket) (replies : List (Reply M)) (old : CoreValue) : Type 0 where
  pub complete : old.life ≡ Complete
  pub none : replies ≡ []
  pub last : IfSome answer (λ ticket. (ticket.record ≡ old.last) × (ticket.commit ≡ None))
  pub unmade : answer ≡ None → old.last ≡ 0

-- where it wasn't: the steps, the last of which tells the end of the build, by this ticket
pub record BecameComplete {M : Type 0} (answer : Option Ticket) (replies : List (Reply M))
    (old : CoreValue) : Type 0 where
  pub unfinished : old.life ≢ Complete
  pub ticket : Ticket
  pub ends : EndsWith (reply.Built (build.Done ticket)) replies
  pub told : answer ≡ Some ticket

-- how it ends: at once where the index was complete, and else with the end of the build, or with the refusal that is
-- answered
abbrev pub IsEnd : {M : Type 0} → Result (Option Ticket) Error → List (Reply M) → CoreValue → Type 0
IsEnd (Ok answer) replies old = WasComplete answer replies old ⊎ BecameComplete answer replies old
IsEnd (Err e) replies old = (old.life ≢ Complete) × EndsWith (reply.Refused e) replies

-- The engine went on by steps of the builder alone, to the end that is answered. Where some run had left it, that run
-- goes on with these requests. A crash at any moment leaves a prefix of the history with them, with every record up to
-- the horizon before, and so what was acknowledged.
pub record IsBuiltToEnd {D M : Type 0} (past_of : D
    → DevicePast) (result : Result (Option Ticket) Error) (old new : EngineParts D M) : Type 0 where
  pub replies : List (Reply M)
  pub each : AreBuilt replies old new
  pub ends : IsEnd result replies (core_of old)
  pub at : (past : Past M) → IsAt past_of past old → IsAt past_of (and_then past (builds replies) replies) new
  pub survives : (past : Past M) → IsAt past_of past old
      → LeavesOnly (past_of (device_of old)) (past_of (device_of new))
      (Survives (and_then past (builds replies) replies) (horizon_of old))

-- each place of the index is taken by an entry, or reserved by a transaction
abbrev pub IsIndexFull : CoreValue → Type 0
IsIndexFull v = IsFull v.index

-- ---- what is built

-- the core is where some events, with these replies, have led it from what it was opened with
pub record HasCome (v : CoreValue) : Type 0 where
  pub opening : Opened
  pub opens : CanOpen opening
  pub made : List RecordValue
  pub pairs : List (core.Event × core.Reply)
  pub state : State
  pub standing : Standing
  pub served : HasServed opening made pairs state standing
  pub shown : IsState v state standing

-- the visible entries are just the pairs of the rows
abbrev pub IsIndexWhole : CoreValue → Type 0
IsIndexWhole v = (pair : Pair) → (get v.index.entries pair ≡ Some Live) ↔ IsPairOf v.heap.rows pair

-- With no transaction active, the rows are as they were, the index is complete, and the visible entries are just their
-- pairs.
pub record EndsWhole (old new : CoreValue) : Type 0 where
  pub rows : new.heap.rows ≡ old.heap.rows
  pub complete : new.life ≡ Complete
  pub whole : IsIndexWhole new

-- so it is with no transaction active, of an engine that came from what a core may begin with
abbrev pub BuildsWhole : CoreValue → CoreValue → Type 0
BuildsWhole old new = HasCome old → old.txns.active ≡ [] → EndsWhole old new
