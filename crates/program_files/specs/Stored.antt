-- What the content of a disk says of its store.
use Rattle.std.specs.Prelude.{◌≡◌, ◌⊎◌, length, ℕ}
use Rattle.model.specs.Given.{Given}
use Rattle.sector_device.specs.Disk.{CrashState}
use Rattle.record_values.specs.declared.error.Error.{Error}
use Rattle.gate_log.specs.Area.{Log, Refuses}
use Rattle.store_reader.specs.Contents.{IsFound, IsUnreadable}
use Rattle.program_files.specs.declared.opening.Stored.{Stored}
use Rattle.program_files.specs.declared.refused.Refused.{Refused}
use Rattle.program_files.specs.declared.refused.Refused.TheVariants.{Store}

-- How large it is, the slots of its log that are in use, the records in these, all behind its last image, and the
-- number of its last record.
pub record IsStored (content : CrashState) (stored : Stored) : Type 0 where
  pub log : Log
  pub given : Given
  pub found : IsFound content stored.geometry log given
  pub open_slots : stored.open_slots ≡ log.open_slots
  pub records : stored.records ≡ length found.gives.records
  pub last : stored.last ≡ given.last

-- There was no memory, or the device failed; or a reader refuses the content so.
abbrev pub IsNotRead : (before now : ℕ) → CrashState → Refused → Type 0
IsNotRead before now content told = (e : Error) × (told ≡ Store e) × (Refuses before now e ⊎ IsUnreadable content e)
