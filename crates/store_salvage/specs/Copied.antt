-- A disk of which not all can be read is copied.
use Rattle.std.specs.Prelude.{◌≡◌, ◌⊎◌, ℕ, ◌+◌, ◌<◌, ◌≤◌, Bool, true, false, List, Contains, length, replicate}
use Rattle.std.specs.List.{All, AllPairs}
use Rattle.sector_device.specs.Disk.{CrashState, sector}
use Rattle.sector_device.specs.DevicePast.{Rises}

-- 512 bytes, each of them 255: no part of a store says so
unfoldable pub unread_sector : List ℕ
unread_sector = replicate 512 255

-- the sector was read, and the other disk holds it; or it holds those bytes
abbrev pub IsCopiedOr : Bool → CrashState → CrashState → ℕ → Type 0
IsCopiedOr true from to n = sector to n ≡ sector from n
IsCopiedOr false from to n = sector to n ≡ unread_sector

-- each of the first sectors is as on the one disk, or it is told, and holds those bytes
abbrev pub AreCopiedBut : List ℕ → ℕ → CrashState → CrashState → Type 0
AreCopiedBut unread sectors from to = (n : ℕ) → n < sectors
    → (sector to n ≡ sector from n) ⊎ (Contains unread n × (sector to n ≡ unread_sector))

-- The number is of one of the first sectors, and the other disk holds those bytes there. The one disk ends before, or
-- failed in this sector's own turn: so many of its calls had failed before each sector's.
abbrev pub IsUnread : (sectors : ℕ) → (from to : CrashState) → (failed : ℕ → ℕ) → ℕ → Type 0
IsUnread sectors from to failed n = (n < sectors) × (sector to n ≡ unread_sector)
    × ((length from ≤ n) ⊎ Rises (failed n) (failed (n + 1)))

-- The numbers rise, and each is of such a sector. The sectors had their turns in order, one behind the other: `failed
-- n` calls of the one disk had failed before that of sector n. So no two sectors are told for one failure.
pub record AreUnread (unread : List ℕ) (sectors : ℕ) (from to : CrashState) (before now : ℕ) : Type 0 where
  pub rising : AllPairs (λ m n. m < n) unread
  pub failed : ℕ → ℕ
  pub first : failed 0 ≡ before
  pub last : failed sectors ≡ now
  pub later : (n : ℕ) → n < sectors → failed n ≤ failed (n + 1)
  pub each : All (IsUnread sectors from to failed) unread
