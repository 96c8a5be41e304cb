-- The numbers of the table, as they are kept in memory. (No public clause cites this.)
use Rattle.std.specs.Prelude.{◌≡◌, ℕ, ◌/◌, ◌%◌, ◌^◌, ◌<◌, ◌≤◌, List, [], false, length, slice_index, slice_index_or}
use Rattle.block_device.specs.Blocks.{CrashFile, block}
use Rattle.block_device.specs.BlocksPast.{BlocksPast}
use Rattle.block_device.specs.Words.{word}
use Rattle.block_journal.specs.Value.{JournalValue, content_of}
use Rattle.block_table.specs.Table.{IsFit, kept_count, place_of, table_count}

-- each of so many rows has the numbers that its block spells
abbrev pub AreNumbers : CrashFile → List (List ℕ) → ℕ → Type 0
AreNumbers kept rows count = (t i : ℕ) → t < count → i < 512
    → slice_index (slice_index_or rows t []) i ≡ word (block kept t) i

-- the number that the rows have for a block of data
abbrev pub digest_in : List (List ℕ) → ℕ → ℕ
digest_in rows n = slice_index (slice_index_or rows (n / 512) []) (n % 512)

module _ {B : Type 0} (past_of : B → BlocksPast) where
  -- The rows are those of the table as it is read, and the first blocks of data, so many as are known to, fit them.
  pub record IsInStep (journal : JournalValue B) (rows : List (List ℕ)) (known blocks : ℕ) : Type 0 where
    pub kept : journal.shape.kept ≡ kept_count blocks
    pub small : kept_count blocks < 2 ^ 64
    pub count : length rows ≡ table_count blocks
    pub numbers : AreNumbers (content_of past_of journal) rows (table_count blocks)
    pub low : known ≤ blocks
    pub fitting : (n : ℕ) → n < known → IsFit blocks (content_of past_of journal) n

  -- a block of data has these bytes, as it is read, and fits its digest; no call has failed
  pub record IsSeen (journal : JournalValue B) (blocks : ℕ) (bytes : List ℕ) (n : ℕ) : Type 0 where
    pub low : n < blocks
    pub good : journal.has_failed ≡ false
    pub same : bytes ≡ block (content_of past_of journal) (place_of blocks n)
    pub fits : IsFit blocks (content_of past_of journal) n
