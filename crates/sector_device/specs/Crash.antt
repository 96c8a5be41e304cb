-- What a crash of a disk in memory leaves, as the fates name it.
use Rattle.std.specs.Prelude.{◌≡◌, ℕ, ◌+◌, ◌*◌, ◌%◌, ◌<◌, Bool, true, false, List, length, take, slice_index}
use Rattle.std.specs.Prelude.{slice_index_or, count_by}
use Rattle.sector_device.specs.declared.call.Fate.{Fate}
use Rattle.sector_device.specs.declared.call.Fate.TheVariants.{Old, New, Zero, Gate, Junk}
use Rattle.sector_device.specs.declared.values.TheConstants.{MARK}
use Rattle.sector_device.specs.Disk.{CrashState, sector}
use Rattle.sector_device.specs.Memory.{MemoryState}

-- byte i is (7 * i + 13) mod 256
pub record IsJunk (bytes : List ℕ) : Type 0 where
  pub size : length bytes ≡ 512
  pub each : (i : ℕ) → i < 512 → slice_index bytes i ≡ (7 * i + 13) % 256

-- 512 times this byte
pub record IsFilled (byte : ℕ) (bytes : List ℕ) : Type 0 where
  pub size : length bytes ≡ 512
  pub each : (i : ℕ) → i < 512 → slice_index bytes i ≡ byte

-- an unsynced sector after the crash: what it held at the last sync, what it held last, zeros, the mark everywhere, or
-- junk
abbrev pub HasFate : Fate → List ℕ → List ℕ → List ℕ → Type 0
HasFate Old old new bytes = bytes ≡ old
HasFate New old new bytes = bytes ≡ new
HasFate Zero old new bytes = IsFilled 0 bytes
HasFate Gate old new bytes = IsFilled MARK bytes
HasFate Junk old new bytes = IsJunk bytes

-- the fate of the i-th unsynced sector: the list again and again, and `Old` where it is empty
abbrev pub fate_at : List Fate → ℕ → Fate
fate_at fates i = slice_index_or fates (i % length fates) Old

-- how many sectors below k are unsynced
abbrev pub unsynced_below : List Bool → ℕ → ℕ
unsynced_below unsynced k = count_by (λ is. is) (take k unsynced)

-- the sectors after a crash: the unsynced ones, ascending, get the fates in turn, and the others stay
pub record IsCrashed (fates : List Fate) (s : MemoryState) (image : CrashState) : Type 0 where
  pub sectors : length image ≡ length s.content
  pub synced : (k : ℕ) → slice_index_or s.unsynced k false ≡ false → sector image k ≡ sector s.content k
  pub unsynced : (k : ℕ) → k < length s.content → slice_index_or s.unsynced k false ≡ true
      → HasFate (fate_at fates (unsynced_below s.unsynced k)) (sector s.synced k) (sector s.content k) (sector image k)
