-- The first sectors of a disk are copied to another one.
use Rattle.std.specs.Prelude.{◌≡◌, ◌⊎◌, ◌<◌, ℕ, length}
use Rattle.record_values.specs.declared.error.Error.TheVariants.{DeviceFailed, DeviceTooSmall}
use Rattle.sector_device.specs.Disk.{CrashState, Disk, IsSynced, sector}
use Rattle.program_files.specs.declared.copying.NotCopied.{NotCopied}
use Rattle.program_files.specs.declared.copying.NotCopied.TheVariants.{New, Old}

-- the second content has the first sectors of the first one
abbrev pub AreCopied : (sectors : ℕ) → (content copy : CrashState) → Type 0
AreCopied sectors content copy = (n : ℕ) → n < sectors → sector copy n ≡ sector content n

-- the disk has the first sectors of this content, and all that it holds is safe
pub record HoldsFirst (sectors : ℕ) (content : CrashState) (disk : Disk) : Type 0 where
  pub same : AreCopied sectors content disk.content
  pub synced : IsSynced disk

-- a disk failed
abbrev pub IsCopyFailure : (old_fails new_fails : Type 0) → NotCopied → Type 0
IsCopyFailure old_fails new_fails e = ((e ≡ Old DeviceFailed) × old_fails) ⊎ ((e ≡ New DeviceFailed) × new_fails)

-- a disk has too few sectors, or it failed
abbrev pub IsNotCopied : (sectors : ℕ) → (old new : CrashState) → (old_fails new_fails : Type 0) → NotCopied → Type 0
IsNotCopied sectors old new old_fails new_fails e =
    ((e ≡ Old DeviceTooSmall) × (length old < sectors))
    ⊎ (((e ≡ New DeviceTooSmall) × (length new < sectors)) ⊎ IsCopyFailure old_fails new_fails e)
