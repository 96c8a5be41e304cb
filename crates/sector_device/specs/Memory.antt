-- A disk in memory: what its record of writes and syncs makes of what it held when the record began.
use Rattle.std.specs.Prelude.{◌≡◌, ℕ, Bool, true, false, ◌<◌, ◌≤◌, nat_lt, List, [], ◌∷◌, length, map, take, replicate}
use Rattle.std.specs.Prelude.{slice_index, slice_index_or, slice_set}
use Rattle.std.proofs.Common.{ap}
use Rattle.std.proofs.Math.Nat.{le_refl}
use Rattle.std.proofs.lemmas.List.{take_all}
use Rattle.sector_device.specs.declared.call.Call.{Call}
use Rattle.sector_device.specs.declared.call.Call.TheVariants.{Write, Sync}
use Rattle.sector_device.specs.Disk.{CrashState, sector, IsSector, IsDiskWhole, Disk}
use Rattle.sector_device.specs.DevicePast.{DevicePast}

-- the content, the content at the last sync, and for each sector whether it is unsynced
pub record MemoryState : Type 0 where
  pub content : CrashState
  pub synced : CrashState
  pub unsynced : List Bool

-- no sector is unsynced
abbrev pub initial_state : CrashState → MemoryState
initial_state image = record { content = image; synced = image; unsynced = replicate (length image) false }

-- after one call more
abbrev pub step : MemoryState → Call → MemoryState
step s (Write n bytes) = record {
  content = slice_set s.content n bytes;
  synced = s.synced;
  unsynced = slice_set s.unsynced n true;
}
step s Sync = record { content = s.content; synced = s.content; unsynced = replicate (length s.content) false }

-- after these calls
abbrev pub state_after : MemoryState → List Call → MemoryState
state_after s [] = s
state_after s (call ∷ calls) = state_after (step s call) calls

-- as a disk
abbrev pub disk_of : MemoryState → Disk
disk_of s = record { content = s.content; unsynced = λ k. slice_index_or s.unsynced k false }

-- the disk after each number of the calls
abbrev pub memory_past : (first : CrashState) (calls : List Call)
    → IsDiskWhole (state_after (initial_state first) calls).content → DevicePast
memory_past first calls whole = record {
  disk = disk_of (state_after (initial_state first) calls);
  moment = length calls;
  disk_at = λ t. disk_of (state_after (initial_state first) (take t calls));
  now = ap (λ (l : List Call). disk_of (state_after (initial_state first) l))
      (take_all (length calls) calls (le_refl (length calls)));
  whole = whole;
}

-- for each sector whether it was written after so many calls, by the number of calls at its last write
abbrev pub unsynced_since : ℕ → List ℕ → List Bool
unsynced_since synced_at written_at = map (λ at. nat_lt synced_at at) written_at

-- a state by its lists: the content, the content at the last sync, and marks, above 0 for the unsynced sectors
abbrev pub marked_state : (content synced : CrashState) (marks : List ℕ) → MemoryState
marked_state content synced marks = record { content = content; synced = synced; unsynced = unsynced_since 0 marks }

-- This is how a disk in memory keeps a state that so many calls made: the content; of each unsynced sector also what it
-- held at the last sync; and after how many calls each sector was written last, and the disk synced last.
pub record Represents (s : MemoryState) (calls : ℕ) (content before : CrashState) (written_at : List ℕ)
    (synced_at : ℕ) : Type 0 where
  pub content_is : s.content ≡ content
  pub unsynced_is : s.unsynced ≡ unsynced_since synced_at written_at
  pub before_is : (k : ℕ) → slice_index_or s.unsynced k false ≡ true → sector s.synced k ≡ sector before k
  pub same : (k : ℕ) → slice_index_or s.unsynced k false ≡ false → sector s.synced k ≡ sector content k
  pub before_size : length before ≡ length content
  pub written_size : length written_at ≡ length content
  pub last_sync : synced_at ≤ calls
  pub last_writes : (k : ℕ) → slice_index written_at k ≤ calls
  pub whole : IsDiskWhole s.content
  pub synced_whole : (k : ℕ) → k < length s.content → IsSector (sector s.synced k)
