-- A reader's refusal of what a disk holds is no failure of the disk.
use Rattle.std.proofs.Common.{◌≡◌, ⊎_elim, sym, ◌∙◌}
use Rattle.sector_device.specs.Disk.{CrashState}
use Rattle.record_values.specs.declared.version.Version.{Version}
use Rattle.record_values.specs.declared.error.Error.{Error}
use Rattle.record_values.specs.declared.error.Error.TheVariants.{DeviceFailed, DeviceTooSmall, NotFormatted, OldVersion, Damaged}
use Rattle.flip_image.specs.declared.superblock.TheConstants.{SUPERBLOCK_SECTOR}
use Rattle.flip_image.specs.Store.{IsRefusedIn}

pub not_failed : (v : Version) (image : CrashState) (e : Error) → IsRefusedIn v image e → e ≡ DeviceFailed → ⊥
not_failed v image e refused failed =
    ⊎_elim
    (λ small. let bad : DeviceTooSmall ≡ DeviceFailed = sym small.0 ∙ failed in absurd cc)
    (⊎_elim
    (λ untitled. let bad : NotFormatted ≡ DeviceFailed = sym untitled.0 ∙ failed in absurd cc)
    (⊎_elim
    (λ older. let bad : OldVersion ≡ DeviceFailed = sym older.0 ∙ failed in absurd cc)
    (λ damaged. let bad : Damaged SUPERBLOCK_SECTOR ≡ DeviceFailed = sym damaged.0 ∙ failed in absurd cc)))
    refused
