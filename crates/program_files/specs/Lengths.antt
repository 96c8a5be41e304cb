-- How long a disk is, and how long the store that it begins with.
use Rattle.std.specs.Prelude.{◌≡◌, ◌<◌, length, ℕ}
use Rattle.record_values.specs.GeometryValue.{GeometryValue, sectors_in}
use Rattle.record_values.specs.declared.version.Version.{Version}
use Rattle.sector_device.specs.Disk.{CrashState}
use Rattle.flip_image.specs.Store.{IsStoreIn}
use Rattle.flip_image.specs.declared.half.Half.{Half}
use Rattle.program_files.specs.declared.refused.Refused.{Refused}
use Rattle.program_files.specs.declared.refused.Refused.TheVariants.{Longer}

-- a store of some version on the disk needs so many sectors
pub record IsNeeded (content : CrashState) (needed : ℕ) : Type 0 where
  pub version : Version
  pub geometry : GeometryValue
  pub half : Half
  pub store : IsStoreIn version geometry half content
  pub size : needed ≡ sectors_in version geometry

-- the disk has more than such a store needs, and both numbers are told
abbrev pub IsLonger : CrashState → Refused → Type 0
IsLonger content told = (needed : ℕ) × IsNeeded content needed × (needed < length content)
    × (told ≡ Longer (length content) needed)
