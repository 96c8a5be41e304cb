-- Sectors of a known value: of zeros, or with a mark in front.
use Rattle.std.specs.Prelude.{◌≡◌, ℕ, ◌+◌, ◌*◌, ◌<◌, List, ◌∷◌, replicate, slice_index}
use Rattle.sector_device.specs.declared.values.TheConstants.{MARK}
use Rattle.sector_device.specs.Disk.{CrashState, sector}

-- a sector of zeros
unfoldable pub zero_sector : List ℕ
zero_sector = replicate 512 0

-- the mark, and zeros behind it
unfoldable pub marked_sector : List ℕ
marked_sector = MARK ∷ replicate 511 0

-- the first byte is the mark
abbrev pub IsMarked : List ℕ → Type 0
IsMarked bytes = slice_index bytes 0 ≡ MARK

-- one of this many sectors, from the first on, each so many sectors behind the one before
abbrev pub InRow : (first step count : ℕ) → ℕ → Type 0
InRow first step count n = (i : ℕ) × (i < count) × (n ≡ first + step * i)

-- each of those is of zeros
abbrev pub AreZeroSectors : CrashState → (first step count : ℕ) → Type 0
AreZeroSectors image first step count = (i : ℕ) → i < count → sector image (first + step * i) ≡ zero_sector
