-- An engine taken apart.
use Rattle.std.specs.Prelude.{◌≡◌, ◌≤◌, ◌++◌, ℕ, List}
use Rattle.records.specs.RecordValue.{RecordValue}
use Rattle.model.specs.Cells.{cells_after}
use Rattle.model.specs.Given.{opening_cells}
use Rattle.core_model.specs.Histories.{CanOpen}
use Rattle.core_model.specs.Logs.{IsLogOf}
use Rattle.core_model.specs.States.{State}
use Rattle.core_copies.specs.Lists.{HasLists}
use Rattle.core_model.specs.Events.{Standing}
use Rattle.core_model.specs.Served.{HasServed}
use Rattle.store_image_model.specs.Run.{end_of, records_between}
use Rattle.core_parts.specs.View.{CoreValue, IsState}
use Rattle.sector_device.specs.DevicePast.{DevicePast}
use Rattle.store_writer.specs.Parts.{synced_of, without_image}
use Rattle.store_writer.specs.Writer.{IsWriter}
use Rattle.store_writer.specs.declared.copying.Copying.TheVariants.{Idle}
use Rattle.store_writer.specs.declared.writer.Writer.{Writer}
use Rattle.restart.specs.declared.parts.EngineParts.{EngineParts}
use Rattle.restart.specs.History.{core_calls}
use Rattle.restart.specs.Parts.{core_of, outgoing_of, writer_of}
use Rattle.restart.specs.Store.{IsAt, Past, acknowledged_by, last_made, over, run_of}

-- The core is the engine's, and so are the records that were taken from it and that the writer doesn't have, and the
-- writer, but that an image under way is forgotten: the next one is copied from its start.
pub record ArePartsOf {D M : Type 0} (engine : EngineParts D M) (core : CoreValue) (records : List RecordValue)
    (w : Writer D M) : Type 0 where
  pub core-is : core ≡ core_of engine
  pub records-are : records ≡ outgoing_of engine
  pub writer-is : w ≡ without_image Idle (writer_of engine)

-- The core has replied as the run tells. The records that it made, which are as many as the replies tell, are those
-- that the writer was handed, then these, and then those that wait in the core; what was acknowledged is synced. All of
-- them, each of which could follow the one before, make of what the store gave as it was opened the rows, the entries,
-- the index's life and the transactions' lists that the core has.
pub record LeavesParts {D M : Type 0} (past_of : D → DevicePast) (past : Past M) (core : CoreValue)
    (records : List RecordValue) (w : Writer D M) : Type 0 where
  pub opens : CanOpen (over past.geometry past.given)
  pub made : List RecordValue
  pub handed : ℕ
  pub state : State
  pub standing : Standing
  pub served : HasServed (over past.geometry past.given) made (core_calls past.events past.replies) state standing
  pub shown : IsState core state standing
  pub log : IsLogOf past.geometry.pages past.given.last (opening_cells past.given) made state
  pub lists : HasLists state (cells_after (opening_cells past.given) made)
  pub many : end_of (run_of past made) ≡ last_made past
  pub writer : IsWriter past_of (run_of past made) handed w
  pub rest : records_between (run_of past made) handed (end_of (run_of past made)) ≡ records ++ core.outbox
  pub safe : acknowledged_by past ≤ synced_of w

-- whatever run left the engine so
abbrev pub LeavesPartsOf : {D M : Type 0} → (D → DevicePast) → EngineParts D M → CoreValue → List RecordValue
    → Writer D M → Type 0
LeavesPartsOf {D} {M} past_of engine core records w = (past : Past M) → IsAt past_of past engine
    → LeavesParts past_of past core records w
