-- What a mirror of a disk holds.
use Rattle.std.specs.Prelude.{◌≡◌, ℕ, List, length, map, replicate}
use Rattle.sector_device.specs.declared.call.Call.{Call}
use Rattle.sector_device.specs.Disk.{CrashState, IsDiskWhole}
use Rattle.sector_device.specs.Memory.{MemoryState, initial_state, state_after}
use Rattle.sector_device.specs.Values.{zero_sector}
use Rattle.store_file.specs.Done.{Done, call_of}

-- it begins as this many sectors of zeros
abbrev pub blank : ℕ → CrashState
blank sectors = replicate sectors zero_sector

-- these writes and syncs as calls of the disk in memory
abbrev pub calls_of : List Done → List Call
calls_of done = map call_of done

-- such a disk after them, over sectors of zeros
abbrev pub state_of : ℕ → List Done → MemoryState
state_of sectors done = state_after (initial_state (blank sectors)) (calls_of done)

-- the mirror holds what was written
pub record IsMirror (sectors : ℕ) (done : List Done) (content : CrashState) : Type 0 where
  pub size : length content ≡ sectors
  pub holds : (state_of sectors done).content ≡ content
  pub flags : length (state_of sectors done).unsynced ≡ sectors
  pub whole : IsDiskWhole (state_of sectors done).content
