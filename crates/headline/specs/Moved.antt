-- What a store holds, behind the days since it was moved from an older device.
use Rattle.std.specs.Prelude.{◌≡◌, ◌≢◌, ◌⊎◌, ◌<◌, Bool, true, ℕ, List, [], length, None, Option, IfSome}
use Rattle.record_values.specs.GeometryValue.{GeometryValue, sectors_of}
use Rattle.record_values.specs.declared.error.Error.{Error}
use Rattle.record_values.specs.declared.error.Error.TheVariants.{DeviceFailed, DeviceTooSmall}
use Rattle.record_values.specs.declared.error.Error.TheVariants as errors
use Rattle.record_values.specs.declared.version.Version.TheVariants.{One}
use Rattle.model.specs.Given.{Given}
use Rattle.core_model.specs.Histories.{CanOpen}
use Rattle.sector_device.specs.Disk.{CrashState}
use Rattle.store_reader.specs.Contents.{GivesIn}
use Rattle.restart.specs.declared.migration.MigrateError.{MigrateError}
use Rattle.restart.specs.declared.migration.MigrateError.TheVariants.{New, NoMemory, Old}
use Rattle.restart.specs.declared.parts.EngineParts.{EngineParts}
use Rattle.restart.specs.Migrating.{IsOldRefused}
use Rattle.restart.specs.Store.{over}
use Rattle.headline.specs.declared.day.Day.{Day}
use Rattle.headline.specs.Days.{Answer}
use Rattle.headline.specs.Held.{HasLived, IsNotReopened, IsUnbuilt}
use Rattle.headline.specs.AtRest.{resting}

-- The old device gives something by version 1. Where a core may begin with that, the store began with it, and the
-- engine holds what its days have made of it; or the build of its index, which was to be carried on, was refused.
pub record HoldsMoved {D M : Type 0} (failures : D → ℕ) (old : CrashState) (failed : ℕ) (days : List (Day M))
    (answers : List (Answer M)) (built : Bool) (unbuilt : Option Error) (engine : EngineParts D M) : Type 0 where
  pub geometry : GeometryValue
  pub given : Given
  pub gave : GivesIn One old geometry given
  pub holds : CanOpen (over geometry given) → unbuilt ≡ None
      → HasLived failures geometry (resting given failed) days answers built engine
  pub refused : CanOpen (over geometry given) → IfSome unbuilt (λ e. (built ≡ true)
      × IsUnbuilt failures geometry (resting given failed) days answers e engine)

-- The old device gives something by version 1. The new one has too few sectors for it, and is as it was; or, where a
-- core may begin with that, a call of the new one failed, in the move or in the last opening.
pub record IsNewNotLived {D M : Type 0} (failures : D → ℕ) (old new : CrashState) (before : D) (days : List (Day M))
    (answers : List (Answer M)) (e : Error) (device : D) : Type 0 where
  pub geometry : GeometryValue
  pub given : Given
  pub gave : GivesIn One old geometry given
  pub why : ((e ≡ DeviceTooSmall) × (length new < sectors_of geometry) × (answers ≡ []) × (device ≡ before))
      ⊎ (CanOpen (over geometry given) → (e ≡ DeviceFailed)
      × IsNotReopened failures geometry (resting given (failures before)) days answers e (failures device))

-- There was no memory: in the move, and the new device is as it was; or, where a core may begin with what the old one
-- gives, in the last opening.
abbrev pub IsMemoryNotLived : {D M : Type 0} → (D → ℕ) → (old : CrashState) → (before : D) → List (Day M)
    → List (Answer M) → D → Type 0
IsMemoryNotLived failures old before days answers device = ((answers ≡ []) × (device ≡ before))
    ⊎ ((geometry : GeometryValue) × (given : Given) × GivesIn One old geometry given × (CanOpen (over geometry given)
    → IsNotReopened failures geometry (resting given (failures before)) days answers errors.NoMemory (failures device)))

-- why a store wasn't moved, or not opened behind its days
abbrev pub IsNotLived : {D M : Type 0} → (D → ℕ) → (old new : CrashState) → (old_before old_after : ℕ) → (before : D)
    → List (Day M) → List (Answer M) → MigrateError → D → Type 0
IsNotLived failures old new old_before old_after before days answers (Old e) device =
    IsOldRefused old old_before old_after e × (answers ≡ []) × (device ≡ before)
IsNotLived failures old new old_before old_after before days answers (New e) device =
    IsNewNotLived failures old new before days answers e device
IsNotLived failures old new old_before old_after before days answers NoMemory device =
    IsMemoryNotLived failures old before days answers device

-- what a refusal behind the move is told as (no public clause cites this)
abbrev pub IsToldLater : Error → MigrateError → Type 0
IsToldLater e refusal = ((e ≡ errors.NoMemory) × (refusal ≡ NoMemory)) ⊎ ((e ≢ errors.NoMemory) × (refusal ≡ New e))
