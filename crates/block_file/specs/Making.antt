-- A file of a new device.
use Rattle.std.specs.Prelude.{◌≡◌, ◌⊎◌, ℕ, ◌+◌, ◌*◌, ◌<◌, ◌≤◌, List, [], Some, replicate}
use Rattle.sector_device.specs.Values.{zero_sector}
use Rattle.block_device.specs.Blocks.{CrashFile, block, zero_block}
use Rattle.block_device.specs.BlocksPast.{BlocksPast, LeavesOnly, WrittenBack, and_back}
use Rattle.block_batch.specs.Batch.{block_digest}
use Rattle.block_journal.specs.declared.shape.Shape.{Shape}
use Rattle.block_journal.specs.Journal.{areas_back}
use Rattle.block_journal.specs.Layout.{area_start, found, recovered}
use Rattle.block_table.specs.Table.{EachFits, data_of}
use Rattle.block_device.specs.Words.{word}
use Rattle.block_file.specs.declared.plan.Plan.{Plan}
use Rattle.block_file.specs.Header.{plan_told}
use Rattle.block_file.specs.Plans.{disk_image}

-- Where a plan says so, the crash file has a device of zeros, in blocks of zeros, each of which fits its digest. (Its
-- headers may tell something else.)
pub record HoldsZeros (p : Plan) (image : CrashFile) : Type 0 where
  pub zeros : disk_image p image ≡ replicate p.sectors zero_sector
  pub blocks : (n : ℕ) → n < p.blocks → block (data_of p.blocks (recovered p.shape image)) n ≡ zero_block
  pub fits : EachFits p.blocks (recovered p.shape image)

-- each area of the journal has an empty batch, of the number of that area
abbrev pub AreBegun : Shape → CrashFile → Type 0
AreBegun g image = (a : ℕ) → a < 2 → found g image a ≡ Some (record { number = a; entries = [] })

-- Whatever a crash leaves from the one moment to the other has the headers that tell what the file told before, or
-- holds zeros.
abbrev pub BecomesZeros : Plan → BlocksPast → BlocksPast → Type 0
BecomesZeros p old new = LeavesOnly old new
    (λ image. (plan_told image ≡ plan_told old.file.content) ⊎ HoldsZeros p image)

-- At a moment, this one or a later one, the file told the plan, with an empty batch in each area. What was written
-- back are these runs, by that moment.
pub record RunsBack (p : Plan) (from : ℕ) (new : BlocksPast) (runs : ℕ → List WrittenBack) (now : List WrittenBack)
    : Type 0 where
  pub moment : ℕ
  pub later : from ≤ moment
  pub until : moment ≤ new.moment
  pub told : plan_told (new.file_at moment).content ≡ Some p
  pub begun : AreBegun p.shape (new.file_at moment).content
  pub back : now ≡ runs moment

-- both areas, that of number 0 first, and no other block
abbrev pub WritesNewBack : Plan → (from : ℕ) → BlocksPast → (before now : List WrittenBack) → Type 0
WritesNewBack p from new before now = RunsBack p from new (λ t. areas_back p.shape 1 t before) now

-- nothing, or that of number 0 alone, or both
abbrev pub BeginsNewBack : Plan → (from : ℕ) → BlocksPast → (before now : List WrittenBack) → Type 0
BeginsNewBack p from new before now = (now ≡ before)
    ⊎ RunsBack p from new (λ t. and_back before (area_start p.shape 0) p.shape.area t) now
    ⊎ WritesNewBack p from new before now

-- ---- (No public clause cites these.)

-- a block that the journal of a new device keeps: in its table the digests of zeros, and behind that zeros
pub record IsNewBlock (table k : ℕ) (bytes : List ℕ) : Type 0 where
  pub row : k < table → (i : ℕ) → i < 512 → word bytes i ≡ block_digest (table + (512 * k + i)) zero_block
  pub zeros : table ≤ k → bytes ≡ zero_block

-- behind the two headers
abbrev pub IsBehind : ℕ → Type 0
IsBehind n = 2 ≤ n
