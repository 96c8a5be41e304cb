-- A table of the digests of blocks of data.
use Rattle.std.specs.Prelude.{◌≡◌, ℕ, ◌+◌, ◌/◌, ◌%◌, ◌<◌, ◌≤◌, drop}
use Rattle.block_device.specs.Blocks.{CrashFile, block}
use Rattle.block_device.specs.Words.{word}
use Rattle.block_batch.specs.Batch.{block_digest}

-- how many blocks hold the digests of so many blocks of data, 512 in each
abbrev pub table_count : ℕ → ℕ
table_count blocks = (blocks + 511) / 512

-- how many blocks are kept: the table, and behind it the data
abbrev pub kept_count : ℕ → ℕ
kept_count blocks = table_count blocks + blocks

-- the blocks of data
abbrev pub data_of : ℕ → CrashFile → CrashFile
data_of blocks kept = drop (table_count blocks) kept

-- where a block of data is kept
abbrev pub place_of : ℕ → ℕ → ℕ
place_of blocks n = table_count blocks + n

-- the digest that the table has for a block of data
abbrev pub digest_of : CrashFile → ℕ → ℕ
digest_of kept n = word (block kept (n / 512)) (n % 512)

-- a block of data fits its digest
abbrev pub IsFit : ℕ → CrashFile → ℕ → Type 0
IsFit blocks kept n = digest_of kept n ≡ block_digest (place_of blocks n) (block kept (place_of blocks n))

-- each block of data fits its digest
abbrev pub EachFits : ℕ → CrashFile → Type 0
EachFits blocks kept = (n : ℕ) → n < blocks → IsFit blocks kept n

-- the first one, from a number on, that doesn't fit
pub record IsFirstUnfit (blocks : ℕ) (kept : CrashFile) (from n : ℕ) : Type 0 where
  pub behind : from ≤ n
  pub low : n < blocks
  pub unfit : ¬ IsFit blocks kept n
  pub before : (m : ℕ) → from ≤ m → m < n → IsFit blocks kept m
