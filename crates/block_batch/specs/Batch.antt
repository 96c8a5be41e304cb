-- A batch of blocks, and how it stands in an area of a journal.
use Rattle.std.specs.Prelude.{◌≡◌, ◌⊎◌, ℕ, zero, suc, ◌+◌, ◌*◌, nat_le, nat_lt, Bool, true, ◌&&◌, ◌==◌, List, [], ◌∷◌}
use Rattle.std.specs.Prelude.{length, take, map, slice_set}
use Rattle.std.specs.List.{range_with_len}
use Rattle.block_digest.specs.Digest.{digest, digest_from}
use Rattle.block_device.specs.Blocks.{CrashFile, block}
use Rattle.block_device.specs.Words.{word}
use Rattle.block_batch.specs.declared.head.TheConstants.{PLACES_MAX}

-- a block of a batch: its place, and its bytes
pub record Entry : Type 0 where
  pub place : ℕ
  pub bytes : List ℕ

-- its number, and its blocks in order
pub record Batch : Type 0 where
  pub number : ℕ
  pub entries : List Entry

-- The first block of an area is the head. Its numbers are the text `NSFBATCH`, the number of the batch, how many blocks
-- it has, and for each of them its place and its digest; the last one is the digest of those numbers. The blocks are
-- behind the head.
abbrev pub number_in : CrashFile → ℕ
number_in area = word (block area 0) 1

abbrev pub count_in : CrashFile → ℕ
count_in area = word (block area 0) 2

abbrev pub place_in : CrashFile → ℕ → ℕ
place_in area i = word (block area 0) (3 + 2 * i)

abbrev pub digest_in : CrashFile → ℕ → ℕ
digest_in area i = word (block area 0) (4 + 2 * i)

-- the digest of a block in its place, which is the seed
abbrev pub block_digest : ℕ → List ℕ → ℕ
block_digest place bytes = digest_from place bytes

-- the digest of the numbers of a head
abbrev pub head_digest : CrashFile → ℕ
head_digest area = digest (take (8 * (3 + 2 * count_in area)) (block area 0))

-- whether the first n blocks fit their digests
abbrev pub do_fit : CrashFile → ℕ → Bool
do_fit area zero = true
do_fit area (suc n) = do_fit area n && (digest_in area n == block_digest (place_in area n) (block area (1 + n)))

-- Whether the area has a batch: the text `NSFBATCH` as a number, a count that a head can tell, room for so many blocks,
-- and digests that fit.
abbrev pub is_batch : CrashFile → Bool
is_batch area = (word (block area 0) 0 == 5643932008403190600)
    && (nat_le (count_in area) PLACES_MAX
    && (nat_lt (count_in area) (length area)
    && ((word (block area 0) 511 == head_digest area) && do_fit area (count_in area))))

-- which it is
abbrev pub batch_in : CrashFile → Batch
batch_in area = record {
  number = number_in area;
  entries = map (λ i. record { place = place_in area i; bytes = block area (1 + i) })
      (range_with_len 0 (count_in area));
}

-- the crash file after a replay: each block of the batch is in its place
abbrev pub replayed : List Entry → CrashFile → CrashFile
replayed [] image = image
replayed (e ∷ entries) image = replayed entries (slice_set image e.place e.bytes)

-- the place of one of the blocks
abbrev pub IsPlace : List Entry → ℕ → Type 0
IsPlace [] n = ⊥
IsPlace (e ∷ entries) n = (n ≡ e.place) ⊎ IsPlace entries n
