-- Zeros, as blocks, sectors and a device.
use Rattle.std.proofs.Common.{◌≡◌, ⊎_elim, ℕ, ◌+◌, ◌*◌, ◌/◌, ◌%◌, ◌<◌, List, [], map, replicate, slice_index, sym, ◌∙◌, ap, arith}
use Rattle.std.proofs.lemmas.Bool.{cases_lt}
use Rattle.std.proofs.lemmas.List.{get_or-drop, get_or_past}
use Rattle.std.proofs.lemmas.List.FromFn.{fill_by_all}
use Rattle.std.proofs.Math.ListN.{length-replicate, get_or-replicate}
use Rattle.std.specs.List.{range_with_len}
use Rattle.sector_device.specs.Values.{zero_sector}
use Rattle.block_device.specs.Blocks.{CrashFile, block, zero_block}
use Rattle.block_table.specs.Table.{data_of, place_of, table_count}
use Rattle.block_file.specs.Sectors.{byte_in, part, sector_in, sectors_of}

each_zero : (n i : ℕ) → slice_index (replicate n 0) i ≡ 0
each_zero n i = ⊎_elim
    (λ below. get_or-replicate {A = ℕ} n i 0 0 below)
    (λ past. get_or_past {X = ℕ} (replicate n 0) i 0 (omega (arith, past, length-replicate {A = ℕ} n 0)))
    (cases_lt i n)

part_of_zeros : (n k m : ℕ) → replicate m 0 ≡ map (byte_in (replicate n 0) k) (range_with_len 0 m)
part_of_zeros n k m = fill_by_all (byte_in (replicate n 0) k) (replicate m 0) m 0 (length-replicate {A = ℕ} m 0)
    (λ i below. each_zero m i ∙ sym (ap (λ (b : ℕ). b % 256) (each_zero n (512 * k + i))))

-- a sector of a block of zeros
part_zero : (k : ℕ) → part zero_block k ≡ zero_sector
unfolding part zero_block zero_sector
part_zero k = sym (part_of_zeros 4096 k 512)

-- the sectors of blocks of zeros
pub zero_sectors : (lead count : ℕ) (blocks : CrashFile) → ((n : ℕ) → n < count → block blocks ((n + lead) / 8) ≡ zero_block)
    → sectors_of lead count blocks ≡ replicate count zero_sector
zero_sectors lead count blocks zeros = sym (fill_by_all (sector_in lead blocks) (replicate count zero_sector) count [] (length-replicate count zero_sector)
    (λ n below. get_or-replicate count n zero_sector [] below
    ∙ sym (ap (λ (b : List ℕ). part b ((n + lead) % 8)) (zeros n below) ∙ part_zero ((n + lead) % 8))))

-- the blocks of data, behind their table
pub data_block : (blocks : ℕ) (kept : CrashFile) (n : ℕ) → block (data_of blocks kept) n ≡ block kept (place_of blocks n)
data_block blocks kept n = get_or-drop (table_count blocks) kept n []
