-- Why no store was made or opened on a disk, and how the disk was left.
use Rattle.std.specs.Prelude.{⊤}
use Rattle.record_values.specs.GeometryValue.{GeometryValue}
use Rattle.record_values.specs.declared.error.Error.{Error}
use Rattle.record_values.specs.declared.error.Error.TheVariants as error
use Rattle.sector_device.specs.Disk.{CrashState}
use Rattle.store_file.specs.FileDisk.{past_of, failures_of}
use Rattle.program_commands.specs.Store as serving
use Rattle.nsf_c.specs.Calls.{HasFailed, IsDisk, IsMade}
use Rattle.nsf_c.specs.Handles.{Disk}
use Rattle.nsf_c.specs.declared.unopened.Unopened.{Unopened}
use Rattle.nsf_c.specs.declared.unopened.Unopened.TheVariants.{NoMemory, Failed, Refused}

-- as which error it is told
abbrev pub error_of : Unopened → Error
error_of NoMemory = error.NoMemory
error_of (Failed after) = error.DeviceFailed
error_of (Refused e after) = e

-- no store was opened on this disk: there was no memory, or a restart refused it, and left it so
abbrev pub IsUnopenedOn : Disk → Unopened → Type 0
IsUnopenedOn disk NoMemory = ⊤
IsUnopenedOn disk (Failed after) = ⊥
IsUnopenedOn disk (Refused e after) = serving.IsRefusedOn past_of failures_of disk after e

-- No store was opened on a disk whose content has P.
abbrev pub IsUnopened : (CrashState → Type 0) → Unopened → Type 0
IsUnopened P NoMemory = ⊤
IsUnopened P unopened = (disk : Disk) × IsDisk P disk × IsUnopenedOn disk unopened

-- no store of this geometry was made: there was no memory, or a call of its disk failed, or a restart on the store just
-- made refused
abbrev pub IsUnmade : GeometryValue → Unopened → Type 0
IsUnmade g (Failed after) = HasFailed g after
IsUnmade g unopened = IsUnopened (IsMade g) unopened
