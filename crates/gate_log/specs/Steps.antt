-- Words for the private steps of reading and writing one slot. No public clause cites them.
use Rattle.std.specs.Prelude.{◌≡◌, ◌⊎◌, ℕ, ◌+◌, ◌<◌, ◌≤◌, true, List, length, All}
use Rattle.sector_device.specs.Disk.{CrashState, sector, Disk, SameOutside}
use Rattle.record_values.specs.declared.geometry.TheConstants.{SLOT_SECTORS}
use Rattle.records.specs.RecordValue.{RecordValue}
use Rattle.record_values.specs.declared.version.Version.{Version}
use Rattle.records.specs.Spelling.{FitsIn}
use Rattle.gate_log.specs.Group.{spellings}
use Rattle.gate_log.specs.Area.{body}

-- the bytes are these records, this many of them, spelled one after the other
pub record AreSpelled (v : Version) (records : List RecordValue) (count : ℕ) (bytes : List ℕ) : Type 0 where
  pub each : All (FitsIn v) records
  pub count-is : length records ≡ count
  pub spelled : bytes ≡ spellings records

-- a sector from low up to high, or one that is unsynced
abbrev pub MayDiffer : Disk → ℕ → ℕ → ℕ → Type 0
MayDiffer disk low high n = ((low ≤ n) × (n < high)) ⊎ (disk.unsynced n ≡ true)

-- What a crash leaves while the slot with its gate in sector n is written: nothing outside it has changed but what was
-- unsynced, and its gate is as it was, or its body is whole.
pub record IsPartlyWritten (old : Disk) (n : ℕ) (bytes : List ℕ) (image : CrashState) : Type 0 where
  pub outside : SameOutside (MayDiffer old n (n + SLOT_SECTORS)) old.content image
  pub either : (sector image n ≡ sector old.content n) ⊎ (body image n ≡ bytes)
