-- What a disk holds to which a store of version 1 was moved, and why a disk holds no such store.
use Rattle.std.specs.Prelude.{◌≡◌, ◌⊎◌, ℕ}
use Rattle.sector_device.specs.Disk.{CrashState, Disk, IsSynced}
use Rattle.sector_device.specs.DevicePast.{Rises}
use Rattle.record_values.specs.GeometryValue.{GeometryValue}
use Rattle.record_values.specs.declared.version.Version.{Version}
use Rattle.record_values.specs.declared.version.Version.TheVariants.{One, Two}
use Rattle.record_values.specs.declared.error.Error.{Error}
use Rattle.record_values.specs.declared.error.Error.TheVariants.{DeviceFailed}
use Rattle.model.specs.Given.{Given}
use Rattle.flip_image.specs.declared.half.Half.{Half}
use Rattle.flip_image.specs.Store.{IsStoreIn, IsRefusedIn}
use Rattle.store_reader.specs.Contents.{Gives, GivesIn}
use Rattle.store_moving.specs.declared.old.NotVersionOne.{NotVersionOne}
use Rattle.store_moving.specs.declared.old.NotVersionOne.TheVariants.{Newer, Refused}

-- The disk holds, all of it safe, what the old content holds in version 1: it gives in version 2 the same rows, the
-- same entries with their states, the same life with its highest pair, and the same number of the last record, with the
-- same geometry.
pub record HoldsStoreOf (old : CrashState) (disk : Disk) : Type 0 where
  pub geometry : GeometryValue
  pub given : Given
  pub gave : GivesIn One old geometry given
  pub gives : Gives disk.content geometry given
  pub synced : IsSynced disk

-- the content is of a store of this version and geometry
abbrev pub IsStoreOf : Version → GeometryValue → CrashState → Type 0
IsStoreOf v geometry image = (half : Half) × IsStoreIn v geometry half image

-- why the content is no store of version 1: it is one of version 2; or the disk failed in the call; or the reader of
-- version 1 refuses it so, and that of version 2 refuses it too
abbrev pub IsNotVersionOne : CrashState → (before after : ℕ) → NotVersionOne → Type 0
IsNotVersionOne image before after Newer = (geometry : GeometryValue) × IsStoreOf Two geometry image
IsNotVersionOne image before after (Refused e) = ((e ≡ DeviceFailed) × Rises before after)
    ⊎ (IsRefusedIn One image e × ((other : Error) × IsRefusedIn Two image other))
