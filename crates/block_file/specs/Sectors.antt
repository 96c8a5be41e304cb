-- The sectors of a device, as blocks of data hold them: eight in a block.
use Rattle.std.specs.Prelude.{ℕ, zero, suc, ◌+◌, ◌*◌, ◌/◌, ◌%◌, ◌<◌, List, [], ◌∷◌, map, slice_index}
use Rattle.std.specs.List.{range_with_len}
use Rattle.std.proofs.Common.{lit<, subst, sym, zero-add}
use Rattle.std.proofs.lemmas.List.FromFn.{get_or-map-range_with_len, length-map-range_with_len}
use Rattle.std.proofs.lemmas.Nat.{mod_below}
use Rattle.sector_device.specs.Disk.{CrashState, IsSector, IsDiskWhole}
use Rattle.block_device.specs.Blocks.{CrashFile, block}

-- byte i of the k-th sector of a block
abbrev pub byte_in : List ℕ → ℕ → ℕ → ℕ
byte_in bytes k i = slice_index bytes (512 * k + i) % 256

-- the bytes of the k-th sector of a block
unfoldable pub part : List ℕ → ℕ → List ℕ
part bytes k = map (byte_in bytes k) (range_with_len 0 512)

-- sector n of a device, before whose first sector the first block has so many others
abbrev pub sector_in : ℕ → CrashFile → ℕ → List ℕ
sector_in lead blocks n = part (block blocks ((n + lead) / 8)) ((n + lead) % 8)

-- so many sectors
abbrev pub sectors_of : (lead count : ℕ) → CrashFile → CrashState
sectors_of lead count blocks = map (sector_in lead blocks) (range_with_len 0 count)

-- ---- each has its 512 bytes

each_low : (f : ℕ → ℕ) → ((i : ℕ) → f i < 256) → (xs : List ℕ) (i : ℕ) → slice_index (map f xs) i < 256
each_low f low [] i = lit< tt
each_low f low (x ∷ xs) zero = low x
each_low f low (x ∷ xs) (suc i) = each_low f low xs i

pub part_is_sector : (bytes : List ℕ) (k : ℕ) → IsSector (part bytes k)
unfolding part
part_is_sector bytes k = record {
  size = length-map-range_with_len (byte_in bytes k) 0 512;
  are_bytes = each_low (byte_in bytes k) (λ i. mod_below (slice_index bytes (512 * k + i)) 256 (lit< tt))
      (range_with_len 0 512);
}

pub sectors_are_whole : (lead count : ℕ) (blocks : CrashFile) → IsDiskWhole (sectors_of lead count blocks)
sectors_are_whole lead count blocks n below = subst IsSector
    (sym (get_or-map-range_with_len (sector_in lead blocks) 0 count n n []
    (subst (λ m. n < m) (length-map-range_with_len (sector_in lead blocks) 0 count) below) (zero-add n)))
    (part_is_sector (block blocks ((n + lead) / 8)) ((n + lead) % 8))
