-- What becomes of a store of version 1 that is moved to another device, and why it isn't moved.
use Rattle.std.specs.Prelude.{◌≡◌, ◌≢◌, ◌⊎◌, ℕ, ◌<◌, ◌≤◌, length, None}
use Rattle.sector_device.specs.Disk.{CrashState, SameOutside}
use Rattle.sector_device.specs.DevicePast.{DevicePast, Rises}
use Rattle.record_values.specs.GeometryValue.{GeometryValue, sectors_of}
use Rattle.record_values.specs.declared.version.Version.TheVariants.{One}
use Rattle.record_values.specs.declared.error.Error.{Error}
use Rattle.record_values.specs.declared.error.Error.TheVariants.{DeviceFailed, DeviceTooSmall}
use Rattle.record_values.specs.declared.error.Error.TheVariants as errors
use Rattle.model.specs.Given.{Given}
use Rattle.gate_log.specs.Area.{Log}
use Rattle.flip_image.specs.Layout.{HalvesValue}
use Rattle.store_reader.specs.Contents.{GivesIn, IsUnreadableIn}
use Rattle.core_parts.specs.View.{CoreValue}
use Rattle.restart.specs.declared.parts.EngineParts.{EngineParts}
use Rattle.restart.specs.declared.migration.MigrateError.{MigrateError}
use Rattle.restart.specs.declared.migration.MigrateError.TheVariants.{Old, New, NoMemory}
use Rattle.store_writer.specs.Parts.{image_of}
use Rattle.store_writer.specs.declared.copying.Copying.TheVariants.{Idle}
use Rattle.restart.specs.Parts.{copying_of, device_of, log_of, writer_of}
use Rattle.restart.specs.Reopening.{IsCoreOf, IsOpened}

-- The engine is as one that was opened over its own device, which gives what the old device gives by version 1: the
-- same rows, the same entries with their states, the same life with its highest pair, and the same number of the last
-- record. Its device is synced, so that each crash of it gives the same.
pub record IsMigrated {E M : Type 0} (old : CrashState) (past_of : E
    → DevicePast) (engine : EngineParts E M) : Type 0 where
  pub opened : IsOpened past_of (device_of engine) engine
  pub gave : GivesIn One old opened.geometry opened.given

-- the engine's log is empty, and no image is under way, nor is a whole one to be taken
abbrev pub BeginsEmpty : {D M : Type 0} → EngineParts D M → Type 0
BeginsEmpty engine = ((log_of engine).open_slots ≡ 0) × (image_of (writer_of engine) ≡ None)
    × (copying_of engine ≡ Idle)

-- no sector of the new device changed but those of the store
abbrev pub WritesTheStoreAlone : {E : Type 0} → CrashState → (E → DevicePast) → E → E → Type 0
WritesTheStoreAlone old past_of before after = (geometry : GeometryValue) (given : Given)
    → GivesIn One old geometry given
    → SameOutside (λ n. n < sectors_of geometry) (past_of before).disk.content (past_of after).disk.content

-- the old device failed in the call, or it gives nothing by version 1
abbrev pub IsOldRefused : CrashState → ℕ → ℕ → Error → Type 0
IsOldRefused old before now e = ((e ≡ DeviceFailed) × Rises before now) ⊎ IsUnreadableIn One old e

-- The old device gives something by version 1; and the new one has too few sectors for a store of its geometry, and is
-- as it was, or it has enough of them, and failed in the call.
pub record IsNewRefused {E : Type 0} (old : CrashState) (past_of : E → DevicePast) (failures : E → ℕ) (before after : E)
    (e : Error) : Type 0 where
  pub geometry : GeometryValue
  pub given : Given
  pub gave : GivesIn One old geometry given
  pub why : ((e ≡ DeviceTooSmall) × (length (past_of before).disk.content < sectors_of geometry) × (after ≡ before))
      ⊎ ((e ≡ DeviceFailed) × (sectors_of geometry ≤ length (past_of before).disk.content)
      × Rises (failures before) (failures after))

-- The old device gives something by version 1, and the new one has too few sectors for it.
pub record IsTooSmall (old new : CrashState) : Type 0 where
  pub geometry : GeometryValue
  pub given : Given
  pub gave : GivesIn One old geometry given
  pub few : length new < sectors_of geometry

-- What is told then. A failure of the old device comes before it, and a want of memory to read that one may.
abbrev pub IsSmallAnswer : MigrateError → Type 0
IsSmallAnswer e = (e ≡ New DeviceTooSmall) ⊎ (e ≡ Old DeviceFailed) ⊎ (e ≡ NoMemory)

-- Why nothing was moved. Where the old device is to blame, or memory was wanting, the new one is as it was.
abbrev pub IsNotMigrated : {E : Type 0} → CrashState → (old_before old_after : ℕ) → (E → DevicePast) → (E → ℕ) → E → E
    → MigrateError → Type 0
IsNotMigrated old old_before old_after past_of failures before after (Old e) = IsOldRefused old old_before old_after e
    × (after ≡ before)
IsNotMigrated old old_before old_after past_of failures before after (New e) =
    IsNewRefused old past_of failures before after e
IsNotMigrated old old_before old_after past_of failures before after NoMemory = after ≡ before

-- The core of what the old device gives, which the new one now gives. (No public clause cites this.)
pub record IsMigratedCore (old : CrashState) (after : DevicePast) (halves : HalvesValue) (log : Log)
    (core : CoreValue) : Type 0 where
  pub moved : IsCoreOf after.disk.content after halves log core
  pub gave : GivesIn One old halves.geometry moved.given

-- The core of these cells, which the device now gives, in a store of this geometry. (No public clause cites this.)
pub record IsFilled (geometry : GeometryValue) (given : Given) (after : DevicePast) (halves : HalvesValue) (log : Log)
    (core : CoreValue) : Type 0 where
  pub filled : IsCoreOf after.disk.content after halves log core
  pub geometry-is : halves.geometry ≡ geometry
  pub given-is : filled.given ≡ given

-- why a device of so many sectors wasn't filled (no public clause cites this)
abbrev pub IsNotFilled : {E : Type 0} → GeometryValue → (E → DevicePast) → (E → ℕ) → E → E → MigrateError → Type 0
IsNotFilled geometry past_of failures before after (Old e) = ⊥
IsNotFilled geometry past_of failures before after (New e) =
    ((e ≡ DeviceTooSmall) × (length (past_of before).disk.content < sectors_of geometry) × (after ≡ before))
    ⊎ ((e ≡ DeviceFailed) × (sectors_of geometry ≤ length (past_of before).disk.content)
    × Rises (failures before) (failures after))
IsNotFilled geometry past_of failures before after NoMemory =
    (sectors_of geometry ≤ length (past_of before).disk.content) × (after ≡ before)

-- what a refusal of the old device is told as (no public clause cites this)
abbrev pub IsToldOfOld : Error → MigrateError → Type 0
IsToldOfOld e refusal = ((e ≡ errors.NoMemory) × (refusal ≡ NoMemory)) ⊎ ((e ≢ errors.NoMemory) × (refusal ≡ Old e))
