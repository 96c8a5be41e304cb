-- Why what is done with a store in a file was refused.
use Rattle.std.specs.Prelude.{◌≡◌, ◌⊎◌, ℕ}
use Rattle.record_values.specs.declared.error.Error.TheVariants as store
use Rattle.block_file.specs.declared.opening.FileError.TheVariants.{FileFailed, NoMemory, TooShort}
use Rattle.block_host.specs.declared.error.DiskError.{DiskError}
use Rattle.block_host.specs.declared.error.DiskError.TheVariants as disk
use Rattle.store_file.specs.declared.trouble.Trouble.{Trouble}
use Rattle.program_files.specs.declared.refused.Refused.{Refused}
use Rattle.program_files.specs.declared.refused.Refused.TheVariants.{Blocks, Device, File, Store}

-- What a file of either kind is refused with is told as for a plain one, where that can be refused so.
abbrev pub refusal_of : DiskError → Refused
refusal_of (disk.Open error) = File error
refusal_of (disk.Damaged sector) = Store (store.Damaged sector)
refusal_of (disk.File NoMemory) = Store store.NoMemory
refusal_of (disk.File FileFailed) = Store store.DeviceFailed
refusal_of (disk.File TooShort) = Store store.DeviceTooSmall
refusal_of (disk.File error) = Blocks error

-- the same refusal; or where the device failed, some reason
abbrev pub IsBecause : Refused → Refused → Type 0
IsBecause refused told = (told ≡ refused)
    ⊎ ((refused ≡ Store store.DeviceFailed) × ((trouble : Trouble) × (told ≡ Device trouble)))

-- the device failed: a reason is told, if one is known
abbrev pub IsFailure : Refused → Type 0
IsFailure told = IsBecause (Store store.DeviceFailed) told

-- a sector is told as damaged, or the device failed
abbrev pub IsHarmed : Refused → Type 0
IsHarmed told = ((sector : ℕ) × (told ≡ Store (store.Damaged sector))) ⊎ IsFailure told
