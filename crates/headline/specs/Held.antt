-- What a store holds, behind its days.
use Rattle.std.specs.List.{All}
use Rattle.std.specs.Prelude.{◌≡◌, ◌≢◌, ◌⊎◌, ◌≤◌, ◌∷◌, ◌++◌, ℕ, Bool, false, if◌then◌else◌, List, []}
use Rattle.record_values.specs.GeometryValue.{GeometryValue}
use Rattle.record_values.specs.declared.error.Error.{Error}
use Rattle.record_values.specs.declared.error.Error.TheVariants.{Exhausted, IndexFull, NoIndex, NoMemory}
use Rattle.record_values.specs.declared.number.TheConstants.{LAST_NUMBER}
use Rattle.model.specs.declared.life.Life.TheVariants.{Absent, Complete}
use Rattle.core_parts.specs.View.{CoreValue}
use Rattle.core_parts.specs.declared.parts.Ticket.{Ticket}
use Rattle.core_parts.specs.declared.reply.BuildReply.{BuildReply}
use Rattle.core_parts.specs.declared.reply.BuildReply.TheVariants.{Done, Idle}
use Rattle.restart.specs.declared.event.Reply.{Reply}
use Rattle.restart.specs.declared.event.Reply.TheVariants.{Built, Refused}
use Rattle.restart.specs.declared.parts.EngineParts.{EngineParts}
use Rattle.restart.specs.Building.{AreBuilt, IsIndexFull}
use Rattle.restart.specs.Parts.{core_of, device_of}
use Rattle.headline.specs.declared.day.Day.{Day}
use Rattle.headline.specs.Days.{Answer, AreDays, IsUnopened}
use Rattle.headline.specs.Fitting.{IsIndexOf}
use Rattle.headline.specs.AtRest.{AtRest, IsOpenedOver}

-- no transaction is active, and the core has the room of a store of this geometry
pub record IsQuiet (geometry : GeometryValue) (core : CoreValue) : Type 0 where
  pub active : core.txns.active ≡ []
  pub pages : core.heap.pages ≡ geometry.pages
  pub places : core.index.capacity ≡ geometry.entries

-- The core holds the rows of the store at rest, and an index that fits them. The index is as far as it was then, or it
-- was built to its end now.
pub record Holds (geometry : GeometryValue) (store : AtRest) (built : Bool) (core : CoreValue) : Type 0 where
  pub rows : core.heap.rows ≡ store.rows
  pub life : core.life ≡ (if built then Complete else store.life)
  pub index : IsIndexOf core.heap.rows core.life core.index.entries
  pub quiet : IsQuiet geometry core

-- The days have made a store of what it began with. The engine was opened over that, and now holds it. It has made
-- steps of the builder alone; and none, where the build wasn't carried on. The device's count of failures is as it was.
pub record HasLived {D M : Type 0} (failures : D → ℕ) (geometry : GeometryValue) (began : AtRest) (days : List (Day M))
    (answers : List (Answer M)) (built : Bool) (engine : EngineParts D M) : Type 0 where
  pub store : AtRest
  pub days-are : AreDays failures geometry began days answers store
  pub opened : EngineParts D M
  pub begins : IsOpenedOver failures geometry store opened
  pub replies : List (Reply M)
  pub steps : AreBuilt replies opened engine
  pub none : built ≡ false → replies ≡ []
  pub holds : Holds geometry store built (core_of engine)
  pub failed : failures (device_of engine) ≡ store.failed

-- A build was refused, and the rows stay. There was no index; or each of its places is taken or reserved; or no number
-- is left for a record; or there was no memory.
pub record IsNotBuilt (error : Error) (old new : CoreValue) : Type 0 where
  pub rows : new.heap.rows ≡ old.heap.rows
  pub unfinished : old.life ≢ Complete
  pub why : ((error ≡ NoIndex) × (old.life ≡ Absent)) ⊎ ((error ≡ IndexFull) × IsIndexFull new)
      ⊎ ((error ≡ Exhausted) × (LAST_NUMBER ≤ new.last)) ⊎ (error ≡ NoMemory)

-- The build was refused of an engine that held what the days have made of the store. It made steps of the builder
-- alone, the last of which was refused so. Each before that was one of a build that goes on.
pub record IsUnbuilt {D M : Type 0} (failures : D → ℕ) (geometry : GeometryValue) (began : AtRest) (days : List (Day M))
    (answers : List (Answer M)) (error : Error) (engine : EngineParts D M) : Type 0 where
  pub opened : EngineParts D M
  pub lived : HasLived failures geometry began days answers false opened
  pub before : List (Reply M)
  pub underway : All (λ (reply : Reply M). (step : BuildReply) × (reply ≡ Built step) × (step ≢ Idle)
      × ((ticket : Ticket) → step ≢ Done ticket)) before
  pub built : AreBuilt (before ++ Refused error ∷ []) opened engine
  pub refused : IsNotBuilt error (core_of opened) (core_of engine)
  pub quiet : IsQuiet geometry (core_of engine)
  pub failed : failures (device_of engine) ≡ failures (device_of opened)

-- Why a store wasn't opened, before its days or behind them. It is what it began with, or what all the days have made
-- of it. To open that, there was no memory, or a call of the device failed.
pub record IsNotReopened {D M : Type 0} (failures : D → ℕ) (geometry : GeometryValue) (began : AtRest)
    (days : List (Day M)) (answers : List (Answer M)) (e : Error) (now : ℕ) : Type 0 where
  pub store : AtRest
  pub days-are : AreDays failures geometry began [] answers store ⊎ AreDays failures geometry began days answers store
  pub why : IsUnopened e store.failed now
