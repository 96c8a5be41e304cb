-- What a disk in memory holds.
use Rattle.std.specs.Prelude.{ℕ, ◌⊎◌, ◌+◌, ◌-◌, ◌≤◌, length, take, slice_index, vec_len, vec_capacity}
use Rattle.sector_device.specs.declared.memory.MemDisk.{MemDisk}
use Rattle.sector_device.specs.Disk.{CrashState}
use Rattle.sector_device.specs.DevicePast.{DevicePast}
use Rattle.sector_device.specs.Memory.{MemoryState, initial_state, state_after, memory_past}

module _ {A : Type 0} where
  -- the disk as it is, and as it was after each call of the record
  abbrev pub past_of : MemDisk A → DevicePast
  past_of d = memory_past d.first.items d.calls.items d.represents.whole

  -- how many calls have failed
  abbrev pub failures_of : MemDisk A → ℕ
  failures_of d = d.failures

  -- the content, the content at the last sync, and which sectors are unsynced
  abbrev pub state_of : MemDisk A → MemoryState
  state_of d = state_after (initial_state d.first.items) d.calls.items

  -- the same after so many calls of its record
  abbrev pub state_at : MemDisk A → ℕ → MemoryState
  state_at d moment = state_after (initial_state d.first.items) (take moment d.calls.items)

  -- what each sector held at the last sync
  abbrev pub last_synced_of : MemDisk A → CrashState
  last_synced_of d = (state_of d).synced

  -- how many writes and syncs its record has room for in all
  abbrev pub record_room : MemDisk A → ℕ
  record_room d = vec_capacity d.calls - length d.content.items

  -- and how many more
  abbrev pub calls_left : MemDisk A → ℕ
  calls_left d = record_room d - vec_len d.calls

  -- there is room to record a write of sector n: it is synced, for which room is kept, or there is room for more
  abbrev pub HasRoom : MemDisk A → ℕ → Type 0
  HasRoom d n = (slice_index d.written_at.items n ≤ d.synced_at)
      ⊎ (vec_len d.calls + length d.content.items + 1 ≤ vec_capacity d.calls)
