-- Where a journal has its parts, and what a file that has them stands for.
use Rattle.std.specs.Prelude.{ℕ, ◌+◌, ◌*◌, ◌%◌, ◌<◌, ◌≤◌, ◌&&◌, ◌==◌, if◌then◌else◌, List, length}
use Rattle.std.specs.Prelude.{Option, Some, None, IfSome, Contains}
use Rattle.block_device.specs.Blocks.{CrashFile, run_of}
use Rattle.block_batch.specs.Batch.{Batch, is_batch, number_in, batch_in, replayed}
use Rattle.block_batch.specs.Replay.{pending}
use Rattle.block_batch.specs.declared.head.TheConstants.{PLACES_MAX}
use Rattle.block_journal.specs.declared.shape.Shape.{Shape}

-- the first block of area 0 or 1, and of the kept ones
abbrev pub area_start : Shape → ℕ → ℕ
area_start g a = g.first + a * g.area

abbrev pub kept_start : Shape → ℕ
kept_start g = g.first + 2 * g.area

-- the blocks of an area, and the kept ones
abbrev pub area_of : Shape → CrashFile → ℕ → CrashFile
area_of g image a = run_of image (area_start g a) g.area

abbrev pub kept_of : Shape → CrashFile → CrashFile
kept_of g image = run_of image (kept_start g) g.kept

-- the crash file has room for all of it
pub record IsInside (g : Shape) (image : CrashFile) : Type 0 where
  pub some : 1 < g.area
  pub few : g.area ≤ PLACES_MAX + 1
  pub room : kept_start g + g.kept ≤ length image

-- the batch of these blocks of area `a`: one whose number belongs there, the even ones in area 0
abbrev pub found_in : CrashFile → ℕ → Option Batch
found_in area a = if is_batch area && (number_in area % 2 == a) then Some (batch_in area) else None

-- the batch of an area
abbrev pub found : Shape → CrashFile → ℕ → Option Batch
found g image a = found_in (area_of g image a) a

-- the kept blocks that a crash file stands for
abbrev pub recovered : Shape → CrashFile → CrashFile
recovered g image = replayed (pending (found g image 0) (found g image 1)) (kept_of g image)

-- THE PREMISE: No bytes that a crash leaves in the journal fit a digest, unless they are a batch that was written
-- whole: one of these, which were handed to be written, or found as the journal was opened.
abbrev pub IsHonest : List Batch → Shape → CrashFile → Type 0
IsHonest offered g image = (a : ℕ) → a < 2 → IfSome (found g image a) (λ x. Contains offered x)
