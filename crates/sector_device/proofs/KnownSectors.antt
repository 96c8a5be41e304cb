-- Sectors of a known value, and sectors in a row.
use Rattle.std.proofs.Common.{◌≡◌, ℕ, ◌+◌, ◌*◌, ◌^◌, ◌<◌, ◌≤◌, All, slice_index, refl, sym, ◌∙◌, ap, arith}
use Rattle.std.proofs.Math.Nat.{mul-le-mul_left}
use Rattle.std.proofs.lemmas.List.Elements.{All-replicate}
use Rattle.std.proofs.lemmas.List.{get_or-replicate}
use Rattle.sector_device.specs.Values.{zero_sector, marked_sector, IsMarked}

-- all bytes of a sector of zeros are zero
pub zero_bytes : All (λ (b : ℕ). b ≡ 0) zero_sector
unfolding zero_sector
zero_bytes = All-replicate (λ (b : ℕ). b ≡ 0) 512 0 refl

-- its first byte is
zero_first : slice_index zero_sector 0 ≡ 0
unfolding zero_sector
zero_first = get_or-replicate {A = ℕ} 512 0 0 0 (omega arith)

-- so it isn't marked
pub zero_not_marked : ¬ IsMarked zero_sector
zero_not_marked marked = omega (arith, marked, zero_first)

-- a marked sector is
pub is_marked : IsMarked marked_sector
unfolding marked_sector
is_marked = refl

-- ---- a row

-- each sector of the row is before the sector behind its end
pub row_below : (step i count : ℕ) → 0 < step → i < count → step * i < step * count
row_below step i count some below = omega (arith, mul-le-mul_left {m = i + 1} {n = count} step (omega arith), more)
  where
    more : step * (i + 1) ≡ step * i + step
    more = omega arith
