-- What checked blocks show.
use Rattle.std.specs.Prelude.{◌≡◌, ◌≢◌, ℕ, ◌≤◌, Result, Err}
use Rattle.sector_device.specs.DevicePast.{Rises}
use Rattle.block_device.specs.Blocks.{CrashFile}
use Rattle.block_device.specs.BlocksPast.{BlocksPast}
use Rattle.block_journal.specs.Value.{JournalValue, content_of, settled_of}
use Rattle.block_table.specs.declared.checked.ReadError.{ReadError}
use Rattle.block_table.specs.declared.checked.ReadError.TheVariants.{FileFailed}
use Rattle.block_table.specs.Table.{data_of}

-- the journal below them, and how many blocks of data there are
pub record CheckedValue (B : Type 0) : Type 0 where
  pub journal : JournalValue B
  pub blocks : ℕ

module _ {B : Type 0} (past_of : B → BlocksPast) where
  -- the table and the data: as they were committed last, and with what was put since
  abbrev pub settled_table : CheckedValue B → CrashFile
  settled_table c = settled_of past_of c.journal

  abbrev pub kept_table : CheckedValue B → CrashFile
  kept_table c = content_of past_of c.journal

  -- the blocks of data, likewise
  abbrev pub settled_data : CheckedValue B → CrashFile
  settled_data c = data_of c.blocks (settled_table c)

  abbrev pub data_now : CheckedValue B → CrashFile
  data_now c = data_of c.blocks (kept_table c)

-- What is read leaves the count of failures, also where it is damaged, and raises it where the file failed.
pub record CountsRead {T : Type 0} (before now : ℕ) (result : Result T ReadError) : Type 0 where
  pub later : before ≤ now
  pub quiet : result ≢ Err FileFailed → now ≡ before
  pub rises : result ≡ Err FileFailed → Rises before now
