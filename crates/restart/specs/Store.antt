-- What the store has done so far, and what a crash of its device leaves.
use Rattle.std.specs.Prelude.{max, ◌≡◌, ◌≢◌, ◌⊎◌, ◌≤◌, ◌+◌, ℕ, List, [], ◌∷◌, ◌++◌, length, take}
use Rattle.std.specs.Prelude.{None}
use Rattle.record_values.specs.GeometryValue.{GeometryValue}
use Rattle.records.specs.RecordValue.{RecordValue}
use Rattle.model.specs.Given.{Given, IsBeginning, opening_cells}
use Rattle.model.specs.History.{Item}
use Rattle.core_model.specs.Histories.{CanOpen, Opened, no_writes}
use Rattle.core_model.specs.Logs.{IsLogOf}
use Rattle.core_model.specs.States.{State}
use Rattle.core_model.specs.Events.{Standing, standing_at}
use Rattle.core_model.specs.Served as told
use Rattle.core_model.specs.Served.{HasServed, IsMadeOf}
use Rattle.core_parts.specs.View.{IsState}
use Rattle.store_image_model.specs.Run.{Run, end_of, records_between}
use Rattle.sector_device.specs.Disk.{CrashState, IsCrashState}
use Rattle.sector_device.specs.DevicePast.{DevicePast, LeavesOnly, Spans}
use Rattle.store_reader.specs.Contents.{Gives}
use Rattle.flip_image.specs.Layout.{HalvesValue, InHalf, InLog, other}
use Rattle.flip_image.specs.declared.half.TheConstants.{FLIP_SECTOR}
use Rattle.store_writer.specs.Parts.{halves_of}
use Rattle.store_writer.specs.declared.copying.Copying.{Copying}
use Rattle.store_writer.specs.declared.copying.Copying.TheVariants.{Steps}
use Rattle.store_writer.specs.Writer.{InOpenedSlots, IsWriter, WritesLogsAlone, WritesOnly}
use Rattle.core_copies.specs.Lists.{HasLists}
use Rattle.model.specs.Cells.{cells_after}
use Rattle.restart.specs.declared.event.Event.{Event}
use Rattle.restart.specs.declared.event.Event.TheVariants as requests
use Rattle.restart.specs.declared.event.Reply.{Reply}
use Rattle.restart.specs.declared.parts.EngineParts.{EngineParts}
use Rattle.restart.specs.History.{AreOfKind, acknowledged, core_calls, standing_over}
use Rattle.restart.specs.Lawful.{IsLawful}
use Rattle.restart.specs.Parts.{copying_of, core_of, device_of, horizon_of, unhanded, writer_of}

-- A run: how large the store is, what it began with, what was asked, and what was answered.
pub record Past (M : Type 0) : Type 0 where
  pub geometry : GeometryValue
  pub given : Given
  pub events : List Event
  pub replies : List (Reply M)

-- a core over what is given, in a store of this geometry
abbrev pub over : GeometryValue → Given → Opened
over geometry given = record { given = given; pages = geometry.pages; places = geometry.entries }

-- the history that the run's events and replies tell
abbrev pub items_told : {M : Type 0} → Past M → List Item
items_told past = told.items_of no_writes (core_calls past.events past.replies)

-- the last record that the run's replies told to be safe
abbrev pub acknowledged_by : {M : Type 0} → Past M → ℕ
acknowledged_by past = acknowledged past.given.last past.replies

-- the number of the last record made, as the run's replies tell it
abbrev pub last_made : {M : Type 0} → Past M → ℕ
last_made past = (standing_over (standing_at past.given.last) (core_calls past.events past.replies)).made

-- the run goes on
abbrev pub and_then : {M : Type 0} → Past M → List Event → List (Reply M) → Past M
and_then past events replies = record past { events = past.events ++ events; replies = past.replies ++ replies }

-- The crash state gives a prefix of the run's history, which has every item up to the floor, and no record past the
-- last that the run made. It is what the records that were made with the run's replies, up to there, make of what the
-- run began with; and a core may begin with it.
pub record Survives {M : Type 0} (past : Past M) (floor : ℕ) (image : CrashState) : Type 0 where
  pub given : Given
  pub gives : Gives image past.geometry given
  pub beginning : IsBeginning past.given (items_told past) floor given
  pub within : given.last ≤ last_made past
  pub records : IsMadeOf (over past.geometry past.given) (core_calls past.events past.replies) given
  pub opens : CanOpen (over past.geometry given)

-- The engine's core is in this state, which the records of the run set, and they alone. Those up to number `handed`
-- were handed to the writer; the others are on their way to it.
pub record StandsAt {D M : Type 0} (past_of : D → DevicePast) (run : Run) (handed : ℕ) (s : State) (k : Standing)
    (engine : EngineParts D M) : Type 0 where
  pub writer : IsWriter past_of run handed (writer_of engine)
  pub rest : records_between run handed (end_of run) ≡ unhanded engine
  pub shown : IsState (core_of engine) s k
  pub log : IsLogOf run.geometry.pages run.last run.cells run.records s
  pub pages : run.geometry.pages ≡ s.pages
  pub places : run.geometry.entries ≡ s.places
  pub made : end_of run ≡ k.made
  -- the log has the lists that the state's transactions have
  pub lists : HasLists s (cells_after run.cells run.records)
  pub geometry : engine.geometry ≡ run.geometry

-- the records of a run, over what it began with
abbrev pub run_of : {M : Type 0} → Past M → List RecordValue → Run
run_of past made = record {
  geometry = past.geometry;
  last = past.given.last;
  cells = opening_cells past.given;
  records = made;
}

-- The engine is where this run leaves it.
pub record IsAt {D M : Type 0} (past_of : D → DevicePast) (past : Past M) (engine : EngineParts D M) : Type 0 where
  pub answered : length past.replies ≡ length past.events
  pub kinds : AreOfKind past.events past.replies
  pub opens : CanOpen (over past.geometry past.given)
  -- the records made, and the number of the last that the writer has
  pub made : List RecordValue
  pub handed : ℕ
  -- the core has replied so to these events, and is in the state and the standing after them
  pub state : State
  pub standing : Standing
  pub served : HasServed (over past.geometry past.given) made (core_calls past.events past.replies) state standing
  pub stands : StandsAt past_of (run_of past made) handed state standing engine
  pub safe : acknowledged_by past ≤ horizon_of engine

-- What every engine keeps, whatever its store gave as it was opened.
abbrev pub CanRun : {D M : Type 0} → (D → DevicePast) → EngineParts D M → Type 0
CanRun {D} {M} past_of engine = (run : Run) × (handed : ℕ) × (s : State) × (k : Standing)
    × StandsAt past_of run handed s k engine

-- One request was answered so: the engine is where it leaves it; a crash at any moment of it leaves a prefix of the
-- history with it, which holds every record up to the horizon that the engine had before, and so what was acknowledged
-- (`safe` of `IsAt`); and the horizon doesn't fall.
abbrev pub ServesOn : {D M : Type 0} → (D → DevicePast) → Event → Reply M → EngineParts D M → EngineParts D M → Type 0
ServesOn {D} {M} past_of event reply old new = (past : Past M) → IsAt past_of past old
    → IsAt past_of (and_then past (event ∷ []) (reply ∷ [])) new
    × LeavesOnly (past_of (device_of old)) (past_of (device_of new))
    (Survives (and_then past (event ∷ []) (reply ∷ [])) (horizon_of old))
    × (horizon_of old ≤ horizon_of new)

-- Only the store's log was written, and where an image is under way that of its half: each other sector of the device
-- holds what it held before, and so it does after a crash at any moment of the call, if it was synced before.
abbrev pub KeepsAround : {D M : Type 0} → (D → DevicePast) → EngineParts D M → EngineParts D M → Type 0
KeepsAround past_of old new = WritesLogsAlone past_of (writer_of old) (writer_of new)

-- No sector was written but those of the slot that a flush opens, in the log and, where an image is under way, in the
-- log of its half: so it is at each moment of the call, as above.
abbrev pub OpensSlotsAlone : {D M : Type 0} → (D → DevicePast) → EngineParts D M → EngineParts D M → Type 0
OpensSlotsAlone past_of old new = WritesOnly past_of (InOpenedSlots (writer_of old)) (device_of old) (device_of new)

-- a sector of the half that isn't current, or the one that tells which half is; and while a whole image waits to be
-- made current, one of the current half's log
abbrev pub InCopy : Copying → HalvesValue → ℕ → Type 0
InCopy copying h n = ((copying ≡ Steps None) × InLog h.geometry h.current n)
    ⊎ (InHalf h.geometry (other h.current) n ⊎ (n ≡ FLIP_SECTOR))

-- Of these alone some were written: each other sector of the device holds what it held before, and so it does after a
-- crash at any moment of the call, if it was synced before.
abbrev pub CopiesAround : {D M : Type 0} → (D → DevicePast) → EngineParts D M → EngineParts D M → Type 0
CopiesAround past_of old new = WritesOnly past_of (InCopy (copying_of old) (halves_of (writer_of old))) (device_of old)
    (device_of new)

-- the device has as many sectors as before
abbrev pub KeepsSectors : {D M : Type 0} → (D → DevicePast) → EngineParts D M → EngineParts D M → Type 0
KeepsSectors past_of old new = length (past_of (device_of new)).disk.content
    ≡ length (past_of (device_of old)).disk.content

-- none of the requests is a copy
abbrev pub HaveNoCopy : List Event → Type 0
HaveNoCopy [] = Unit {0}
HaveNoCopy (event ∷ events) = (event ≢ requests.Copy) × HaveNoCopy events

-- What a crash between borders j and j + 1 leaves of a run that answered these requests: it holds every record up to
-- this horizon, the engine's before the first of them, and what the first j replies acknowledged.
abbrev pub SurvivesAt : {M : Type 0} → Past M → List Event → List (Reply M) → (horizon : ℕ) → ℕ → CrashState → Type 0
SurvivesAt past events replies horizon j = Survives (and_then past (take (j + 1) events) (take (j + 1) replies))
    (max horizon (acknowledged_by (and_then past (take j events) (take j replies))))

-- The run went on by these requests: the engine is where they leave it; and there are moments that rise from the call's
-- start to its end, one for each request, between which each crash leaves such a prefix. The horizon doesn't fall.
pub record GoesOn {D M : Type 0} (past_of : D → DevicePast) (past : Past M) (events : List Event)
    (replies : List (Reply M)) (old new : EngineParts D M) : Type 0 where
  pub at : IsAt past_of (and_then past events replies) new
  pub kept : (t : ℕ) → t ≤ (past_of (device_of old)).moment
      → (past_of (device_of new)).disk_at t ≡ (past_of (device_of old)).disk_at t
  pub borders : List ℕ
  pub one_each : length borders ≡ length events
  pub spans : Spans (past_of (device_of new)).disk_at (SurvivesAt past events replies (horizon_of old)) 0
      (past_of (device_of old)).moment borders (past_of (device_of new)).moment
  pub grows : horizon_of old ≤ horizon_of new

-- Each request in turn was answered lawfully, from where the run had left the engine to where it leaves it then; a
-- crash at any moment of it leaves every record up to the horizon that the engine had as this request began.
abbrev pub AreServed : {D M : Type 0} → (D → DevicePast) → (D → ℕ) → Past M → List Event → List (Reply M)
    → EngineParts D M
    → EngineParts D M → Type 0
AreServed past_of failures past [] [] old new = new ≡ old
AreServed {D} {M} past_of failures past (event ∷ events) (reply ∷ replies) old new =
    (mid : EngineParts D M) × IsLawful failures event reply old mid
    × IsAt past_of (and_then past (event ∷ []) (reply ∷ [])) mid
    × LeavesOnly (past_of (device_of old)) (past_of (device_of mid))
    (Survives (and_then past (event ∷ []) (reply ∷ [])) (horizon_of old))
    × AreServed past_of failures (and_then past (event ∷ []) (reply ∷ [])) events replies mid new
AreServed past_of failures past [] (reply ∷ replies) old new = ⊥
AreServed past_of failures past (event ∷ events) [] old new = ⊥

-- whatever run left the engine so, it went on by these requests
abbrev pub RunsOn : {D M : Type 0} → (D → DevicePast) → List Event → List (Reply M) → EngineParts D M → EngineParts D M
    → Type 0
RunsOn {D} {M} past_of events replies old new = (past : Past M) → IsAt past_of past old
    → GoesOn past_of past events replies old new

-- so it is of any run that left the engine where it was
abbrev pub RunsLawfully : {D M : Type 0} → (D → DevicePast) → (D → ℕ) → List Event → List (Reply M) → EngineParts D M
    → EngineParts D M
    → Type 0
RunsLawfully {D} {M} past_of failures events replies old new = (past : Past M) → IsAt past_of past old
    → AreServed past_of failures past events replies old new

-- Whatever run left the engine so, a crash of the device leaves a prefix of it with every record up to the horizon, and
-- so with everything acknowledged (`safe` of `IsAt`).
abbrev pub KeepsRun : {D M : Type 0} → (D → DevicePast) → EngineParts D M → D → Type 0
KeepsRun {D} {M} past_of engine device = (past : Past M) (image : CrashState) → IsAt past_of past engine
    → IsCrashState (past_of device).disk image → Survives past (horizon_of engine) image
