-- What becomes of a device whose store is written back into its other half.
use Rattle.std.specs.Prelude.{◌≡◌, ◌⊎◌, ℕ}
use Rattle.sector_device.specs.Disk.{CrashState, Disk, IsCrashState, SameOutside}
use Rattle.record_values.specs.GeometryValue.{GeometryValue}
use Rattle.model.specs.Given.{Given}
use Rattle.flip_image.specs.declared.half.Half.{Half}
use Rattle.flip_image.specs.declared.half.TheConstants.{FLIP_SECTOR}
use Rattle.flip_image.specs.Layout.{other, InHalf}
use Rattle.flip_image.specs.Store.{IsStore}
use Rattle.store_reader.specs.Contents.{Gives}

-- a sector that may be written: of the half that isn't current, or the flip sector
abbrev pub IsSpare : GeometryValue → Half → ℕ → Type 0
IsSpare geometry current n = InHalf geometry (other current) n ⊎ (n ≡ FLIP_SECTOR)

-- What a crash leaves while this is written into the half of a store that isn't current, and that half made current: no
-- sector but those of that half and the flip sector has changed; and the store's current half is still current, or the
-- store gives what is written.
pub record IsOverwritten (geometry : GeometryValue) (half : Half) (given : Given)
    (before image : CrashState) : Type 0 where
  pub outside : SameOutside (IsSpare geometry half) before image
  pub either : IsStore geometry half image ⊎ Gives image geometry given

-- The second content differs from the first one in the half that wasn't current, and in the flip sector, at most; and
-- it gives what the first one gives.
pub record IsWrittenBack (before image : CrashState) : Type 0 where
  pub geometry : GeometryValue
  pub half : Half
  pub store : IsStore geometry half before
  pub outside : SameOutside (IsSpare geometry half) before image
  pub given : Given
  pub gave : Gives before geometry given
  pub gives : Gives image geometry given

-- what a crash leaves: what it might have left before, or the disk's content, written back
abbrev pub ReopeningLeaves : Disk → CrashState → Type 0
ReopeningLeaves before image = IsCrashState before image ⊎ IsWrittenBack before.content image
