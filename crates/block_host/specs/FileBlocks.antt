-- What a file of blocks over what is below holds, as far as its calls tell.
use Rattle.std.specs.Prelude.{◌≡◌, ℕ, Bool, false, ◌||◌, List, [], ◌∷◌}
use Rattle.block_device.specs.Blocks.{BlockFile, is_in_run}
use Rattle.block_device.specs.BackRuns.{runs_in}
use Rattle.block_device.specs.BlocksPast.{BlocksPast, WrittenBack, past_with}
use Rattle.block_host.specs.declared.held.Run.{Run}
use Rattle.block_host.specs.declared.held.Held.{Held}
use Rattle.block_host.specs.declared.mirror.FileBlocks.{FileBlocks}

-- whether block n is in one of these runs
abbrev pub is_in_any : List Run → ℕ → Bool
is_in_any [] n = false
is_in_any (run ∷ runs) n = is_in_run run.first run.count n || is_in_any runs n

module _ {A : Type 0} where
  -- the content, and which blocks are loose
  abbrev pub file_of : Held A → BlockFile
  file_of h = record { content = h.content.items; loose = is_in_any h.written.items }

module _ {F A : Type 0} where
  -- the file as it is, and as it was before each write and sync since it was opened
  abbrev pub past_of : FileBlocks F A → BlocksPast
  past_of b = past_with file_of b.past.items b.held b.held.whole

  -- how many calls have failed
  abbrev pub failures_of : FileBlocks F A → ℕ
  failures_of b = b.failures

  -- whether a write, a sync or a `keep` of it has failed, behind which each fails
  abbrev pub has_failed_of : FileBlocks F A → Bool
  has_failed_of b = b.has_failed

  -- which runs were written back since it was opened
  abbrev pub written_back_of : FileBlocks F A → List WrittenBack
  written_back_of b = runs_in b.back

  -- what is below
  abbrev pub below_of : FileBlocks F A → F
  below_of b = b.below

  -- no block is loose
  abbrev pub IsFileSynced : FileBlocks F A → Type 0
  IsFileSynced b = (n : ℕ) → (past_of b).file.loose n ≡ false
