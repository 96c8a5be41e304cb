-- What a device keeps of a store's days. (No public clause cites these.)
use Rattle.std.specs.Prelude.{◌≡◌, ◌⊎◌, ◌-◌, ℕ, Bool, if◌then◌else◌, List, [], ◌∷◌, ◌++◌, length, take, Ok, Err, Option}
use Rattle.std.specs.Prelude.{IfSome}
use Rattle.record_values.specs.GeometryValue.{GeometryValue}
use Rattle.record_values.specs.declared.error.Error.{Error}
use Rattle.record_values.specs.declared.error.Error.TheVariants.{NoMemory}
use Rattle.model.specs.Given.{Given}
use Rattle.core_model.specs.Histories.{CanOpen}
use Rattle.sector_device.specs.Disk.{CrashState, IsCrashState}
use Rattle.sector_device.specs.DevicePast.{DevicePast}
use Rattle.store_reader.specs.Contents.{Gives}
use Rattle.restart.specs.declared.event.Event.{Event}
use Rattle.restart.specs.declared.event.Reply.{Reply}
use Rattle.restart.specs.declared.event.Reply.TheVariants.{Refused}
use Rattle.restart.specs.declared.parts.EngineParts.{EngineParts}
use Rattle.restart.specs.Building.{AreBuilt, EndsWith, builds}
use Rattle.restart.specs.Lawful.{AreLawful, IsLawful}
use Rattle.restart.specs.Parts.{device_of}
use Rattle.restart.specs.Reopening.{IsEmptied, IsOpened}
use Rattle.restart.specs.Store.{IsAt, Past, RunsOn, ServesOn, and_then, over}
use Rattle.nsf.specs.Seats.{SeatValue}
use Rattle.headline.specs.Beside.{HasLivedBeside}
use Rattle.headline.specs.declared.day.Day.{Day}
use Rattle.headline.specs.declared.shared_day.SharedAnswer.{SharedAnswer}
use Rattle.headline.specs.declared.shared_day.SharedDay.{SharedDay}
use Rattle.headline.specs.Days.{Answer, AreDays}
use Rattle.headline.specs.AtRest.{AtRest, resting}

-- The crash state gives what the days have made of the store, on a device with this count of failures; and a core may
-- begin with it.
pub record GivesDays {D M : Type 0} (failures : D → ℕ) (geometry : GeometryValue) (began : AtRest) (days : List (Day M))
    (answers : List (Answer M)) (failed : ℕ) (image : CrashState) : Type 0 where
  pub given : Given
  pub gives : Gives image geometry given
  pub days-are : AreDays failures geometry began days answers (resting given failed)
  pub opens : CanOpen (over geometry given)

-- whatever a crash leaves of the device gives that; and its moments count from now on
pub record KeepsDays {D M : Type 0} (past_of : D → DevicePast) (failures : D → ℕ) (geometry : GeometryValue)
    (began : AtRest) (days : List (Day M)) (answers : List (Answer M)) (device : D) : Type 0 where
  pub anew : (past_of device).moment ≡ 0
  pub each : (image : CrashState) → IsCrashState (past_of device).disk image
      → GivesDays failures geometry began days answers (failures device) image

-- the engine was opened from this device, and no call of it failed
pub record IsBegun {D M : Type 0} (past_of : D → DevicePast) (failures : D → ℕ) (before : D)
    (engine : EngineParts D M) : Type 0 where
  pub opened : IsOpened past_of before engine
  pub emptied : IsEmptied past_of before engine
  pub quiet : failures (device_of engine) ≡ failures before

-- the replies that came before the store stopped: all; or, where it stopped within the last request, those before it
abbrev pub seen : {M : Type 0} → (within : Bool) → List (Reply M) → List (Reply M)
seen within replies = if within then take (length replies - 1) replies else replies

-- Whatever days the device keeps as the day begins, it keeps this one too as it is found behind it.
abbrev pub KeepsOneMore : {D M : Type 0} → (D → DevicePast) → (D → ℕ) → D → Day M → Answer M → D → Type 0
KeepsOneMore {D} {M} past_of failures before day answer found = (geometry : GeometryValue) (began : AtRest)
    (days : List (Day M)) (answers : List (Answer M)) → KeepsDays past_of failures geometry began days answers before
    → KeepsDays past_of failures geometry began (days ++ day ∷ []) (answers ++ answer ∷ []) found

-- These requests were answered so, and then one more. The mark is of the moment in between.
pub record ServesWithin {D M : Type 0} (past_of : D → DevicePast) (failures : D → ℕ) (marks : ℕ → ℕ → Type 0)
    (events : List Event) (last : Event) (replies : List (Reply M)) (mark : ℕ)
    (old new : EngineParts D M) : Type 0 where
  pub first : List (Reply M)
  pub reply : Reply M
  pub all : replies ≡ first ++ reply ∷ []
  pub mid : EngineParts D M
  pub lawful : AreLawful failures events first old mid
  pub runs : RunsOn past_of events first old mid
  pub marked : marks mark (past_of (device_of mid)).moment
  pub lawful_last : IsLawful failures last reply mid new
  pub serves : ServesOn past_of last reply mid new

-- how the requests of a day were answered that ends within: none where there is none, or all; or there was no memory
abbrev pub IsServedWithin : {D M : Type 0} → (D → DevicePast) → (D → ℕ) → (ℕ → ℕ → Type 0) → (opening : ℕ) → List Event
    → Answer M → (mark : ℕ) → EngineParts D M → EngineParts D M → Type 0
IsServedWithin past_of failures marks opening requests (Ok replies) mark old new =
    ((requests ≡ []) × (replies.items ≡ []) × (mark ≡ opening) × (new ≡ old))
    ⊎ ((events : List Event) × (last : Event) × (requests ≡ events ++ last ∷ [])
    × ServesWithin past_of failures marks events last replies.items mark old new)
IsServedWithin past_of failures marks opening requests (Err e) mark old new = (e ≡ NoMemory) × (mark ≡ opening)
    × (new ≡ old)

-- The builder made these steps, with which any run goes on; where the build was refused, the last of them was.
pub record EndsBuild {D M : Type 0} (past_of : D → DevicePast) (refusal : Option Error)
    (old new : EngineParts D M) : Type 0 where
  pub replies : List (Reply M)
  pub each : AreBuilt replies old new
  pub refused : IfSome refusal (λ e. EndsWith (Refused e) replies)
  pub at : (past : Past M) → IsAt past_of past old → IsAt past_of (and_then past (builds replies) replies) new

-- The crash state gives what the days and a day of clients have made of a store, on a device with this count of
-- failures; and a core may begin with it.
pub record FindsShared {D M C : Type 0} (works : C → C → SeatValue → SeatValue → Type 0) (failures : D → ℕ)
    (geometry : GeometryValue) (began : AtRest) (days : List (Day M)) (answers : List (Answer M)) (day : SharedDay C)
    (answer : SharedAnswer C) (failed : ℕ) (image : CrashState) : Type 0 where
  pub store : AtRest
  pub lived : HasLivedBeside works failures geometry began days answers day answer store
  pub given : Given
  pub gives : Gives image geometry given
  pub rests : store ≡ resting given failed
  pub opens : CanOpen (over geometry given)
