-- What a file in memory holds.
use Rattle.std.specs.Prelude.{ℕ, false, List, slice_index_or}
use Rattle.block_device.specs.declared.held.Held.{Held}
use Rattle.block_device.specs.declared.memory.MemBlocks.{MemBlocks}
use Rattle.block_device.specs.Blocks.{CrashFile, BlockFile}
use Rattle.block_device.specs.BackRuns.{runs_in}
use Rattle.block_device.specs.BlocksPast.{BlocksPast, WrittenBack, past_with}
use Rattle.block_device.specs.Crash.{Torn}

module _ {A : Type 0} where
  -- the content, and which blocks are loose
  abbrev pub file_of : Held A → BlockFile
  file_of h = record { content = h.content.items; loose = λ n. slice_index_or h.loose.items n false }

  -- the same, with the content at the last sync
  abbrev pub torn_of : Held A → Torn
  torn_of h = record { content = h.content.items; synced = h.synced.items; loose = h.loose.items }

  -- the file as it is, and as it was before each write and sync since it began
  abbrev pub past_of : MemBlocks A → BlocksPast
  past_of m = past_with file_of m.past.items m.held m.held.whole

  -- what a crash gives fates to
  abbrev pub state_of : MemBlocks A → Torn
  state_of m = torn_of m.held

  -- the content at the last sync
  abbrev pub last_synced_of : MemBlocks A → CrashFile
  last_synced_of m = (state_of m).synced

  -- how many calls have failed
  abbrev pub failures_of : MemBlocks A → ℕ
  failures_of m = m.failures

  -- which runs were written back since it began
  abbrev pub written_back_of : MemBlocks A → List WrittenBack
  written_back_of m = runs_in m.back

  -- how many writes and syncs succeed yet
  abbrev pub calls_left : MemBlocks A → ℕ
  calls_left m = m.calls_left
