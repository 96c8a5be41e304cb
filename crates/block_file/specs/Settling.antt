-- What an opening hands on, and what a crash leaves meanwhile.
use Rattle.std.specs.Prelude.{◌≡◌, ◌⊎◌, ◌+◌, ◌-◌, ◌^◌, ◌≤◌, List, [], ◌∷◌, ◌++◌, Some, None, Contains}
use Rattle.block_device.specs.BlocksPast.{BlocksPast, LeavesOnly}
use Rattle.block_device.specs.Blocks.{CrashFile}
use Rattle.block_batch.specs.Batch.{Batch}
use Rattle.block_journal.specs.declared.shape.Shape.{Shape}
use Rattle.block_journal.specs.Journal.{AreInAreas, LeavesBefore, OnlyReads, StaysRecovered}
use Rattle.block_journal.specs.Layout.{IsHonest, IsInside, found, recovered}
use Rattle.block_journal.specs.Value.{JournalValue, settled_of}
use Rattle.block_file.specs.Damage.{CanBeOpened}
use Rattle.block_file.specs.Header.{plan_told}
use Rattle.block_file.specs.declared.opening.FileError.{FileError}
use Rattle.block_file.specs.declared.opening.FileError.TheVariants.{FileFailed}
use Rattle.block_file.specs.declared.plan.Plan.{Plan}

-- Some batches, and behind them what an opening hands on: the last one once more, under the next number, and an empty
-- one.
abbrev pub handed_on : List Batch → Batch → List Batch
handed_on batches last = (batches ++ record { number = last.number + 1; entries = last.entries } ∷ [])
    ++ record { number = last.number + 1 + 1; entries = [] } ∷ []

-- These are the batches that the areas have, the last of which has the highest number, and what is handed on behind
-- them.
pub record AreHandedOn (g : Shape) (image : CrashFile) (offered : List Batch) : Type 0 where
  pub batches : List Batch
  pub last : Batch
  pub in_areas : AreInAreas g image batches
  pub all : IsHonest batches g image
  pub has_last : Contains batches last
  pub latest : (x : Batch) → Contains batches x → x.number ≤ last.number
  pub behind : offered ≡ handed_on batches last

-- Under the premise for these batches, whatever a crash leaves from the one moment to the other stands for what the
-- file stood for,
abbrev pub StaysUnder : List Batch → Shape → BlocksPast → BlocksPast → Type 0
StaysUnder offered g old new =
    LeavesOnly old new (λ c. IsHonest offered g c → recovered g c ≡ recovered g old.file.content)

-- and can be opened.
abbrev pub OpensUnder : List Batch → Plan → BlocksPast → BlocksPast → Type 0
OpensUnder offered p old new = LeavesOnly old new (λ c. IsHonest offered p.shape c → CanBeOpened p c)

-- So it is where the file fails while an opening hands batches on.
pub record IsCutOff (p : Plan) (old new : BlocksPast) : Type 0 where
  pub offered : List Batch
  pub handed : AreHandedOn p.shape old.file.content offered
  pub stays : StaysUnder offered p.shape old new
  pub opens : CanBeOpened p old.file.content → OpensUnder offered p old new

-- No batch was handed on: whatever a crash leaves stands for what the file stood for, and can be opened if the file
-- could.
pub record IsUntouched (p : Plan) (old new : BlocksPast) : Type 0 where
  pub stays : StaysRecovered p.shape old new
  pub opens : CanBeOpened p old.file.content → LeavesOnly old new (CanBeOpened p)

-- What a refused opening leaves, by its error: only a failure of the file may come while batches are handed on.
abbrev pub IsLeft : Plan → FileError → BlocksPast → BlocksPast → Type 0
IsLeft p error old new = IsUntouched p old new ⊎ ((error ≡ FileFailed) × IsCutOff p old new)

-- The file tells a plan, by which an area has a batch with one of the last two numbers of 64 bits.
abbrev pub HasLastNumber : CrashFile → Type 0
HasLastNumber image = (p : Plan) × (plan_told image ≡ Some p)
    × ((x : Batch) × ((found p.shape image 0 ≡ Some x) ⊎ (found p.shape image 1 ≡ Some x)) × (2 ^ 64 - 2 ≤ x.number))

-- ---- (No public clause cites these.)

-- an area has a batch
abbrev pub HasBatch : Shape → CrashFile → Type 0
HasBatch g c = ¬ ((found g c 0 ≡ None) × (found g c 1 ≡ None))

-- What a crash leaves while the last batch of a journal is handed on: under the premise, what was settled; the blocks
-- before the journal; and a batch in an area.
pub record IsHandingOn {B : Type 0} (past_of : B → BlocksPast) (j : JournalValue B) (new : BlocksPast) : Type 0 where
  pub stays : LeavesOnly (past_of j.below) new
      (λ c. IsHonest (handed_on j.offered j.last) j.shape c → recovered j.shape c ≡ settled_of past_of j)
  pub before : LeavesBefore j.shape (past_of j.below) new
  pub holds : LeavesOnly (past_of j.below) new (λ c. IsInside j.shape c × HasBatch j.shape c)

-- checked blocks were refused: they were only read, or the file failed while the last batch was handed on
abbrev pub IsRefusedBehind : {B : Type 0} (past_of : B → BlocksPast) → JournalValue B → FileError → BlocksPast → Type 0
IsRefusedBehind past_of j error new =
    OnlyReads (past_of j.below) new ⊎ ((error ≡ FileFailed) × IsHandingOn past_of j new)
