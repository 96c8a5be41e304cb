-- A disk of sectors: what it holds, which sectors are unsynced, and what a crash leaves of it.
use Rattle.std.specs.Prelude.{◌≡◌, ℕ, ◌<◌, Bool, true, false, ◌||◌, ◌==◌, List, [], length, slice_index, slice_index_or}
use Rattle.std.specs.Prelude.{slice_set}

-- the bytes of each sector: the content of a disk, or a crash state, which is what a crash leaves of one
abbrev pub CrashState : Type 0
CrashState = List (List ℕ)

-- the bytes of sector n
abbrev pub sector : CrashState → ℕ → List ℕ
sector image n = slice_index_or image n []

-- 512 bytes
pub record IsSector (bytes : List ℕ) : Type 0 where
  pub size : length bytes ≡ 512
  pub are_bytes : (i : ℕ) → slice_index bytes i < 256

-- each sector has its 512 bytes
abbrev pub IsDiskWhole : CrashState → Type 0
IsDiskWhole image = (n : ℕ) → n < length image → IsSector (sector image n)

-- what each sector holds, and which sectors were written since the last sync that succeeded
pub record Disk : Type 0 where
  pub content : CrashState
  pub unsynced : ℕ → Bool

-- after a write of sector n, which is then unsynced
abbrev pub after_write : Disk → ℕ → List ℕ → Disk
after_write disk n bytes = record {
  content = slice_set disk.content n bytes;
  unsynced = λ k.
      (k == n) || disk.unsynced k;
}

-- after a sync: the content stays
abbrev pub after_sync : Disk → Disk
after_sync disk = record { content = disk.content; unsynced = λ _. false }

-- after a write of sector n that failed: it holds some 512 bytes, and is unsynced
abbrev pub IsFailedWrite : Disk → ℕ → Disk → Type 0
IsFailedWrite old n new = (bytes : List ℕ) × IsSector bytes × (new ≡ after_write old n bytes)

-- no sector is unsynced
abbrev pub IsSynced : Disk → Type 0
IsSynced disk = (k : ℕ) → disk.unsynced k ≡ false

-- a crash state of the disk: the content of each sector that is synced, and any 512 bytes in each that is not
pub record IsCrashState (disk : Disk) (image : CrashState) : Type 0 where
  pub sectors : length image ≡ length disk.content
  pub kept : (k : ℕ) → disk.unsynced k ≡ false → sector image k ≡ sector disk.content k
  pub torn : (k : ℕ) → k < length image → disk.unsynced k ≡ true → IsSector (sector image k)

-- the second content is the first one, but for the sectors of S
pub record SameOutside (S : ℕ → Type 0) (image other : CrashState) : Type 0 where
  pub sectors : length other ≡ length image
  pub same : (k : ℕ) → ¬ S k → sector other k ≡ sector image k

-- outside the sectors of S the disk holds this content, and each sector is synced
pub record SyncedOutside (S : ℕ → Type 0) (image : CrashState) (disk : Disk) : Type 0 where
  pub content : SameOutside S image disk.content
  pub synced : (k : ℕ) → ¬ S k → disk.unsynced k ≡ false
