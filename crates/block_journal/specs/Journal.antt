-- What a journal keeps.
use Rattle.std.specs.Prelude.{◌≡◌, ◌⊎◌, ℕ, ◌+◌, ◌%◌, ◌≤◌, ◌<◌, List, Some, None, IfSome, Contains}
use Rattle.block_device.specs.Blocks.{BlockFile, CrashFile, InRun, SameOutside, block}
use Rattle.block_device.specs.BlocksPast.{BlocksPast, Elapses, LeavesOnly, WrittenBack, and_back}
use Rattle.block_batch.specs.Batch.{Entry, Batch, replayed, IsPlace}
use Rattle.block_batch.specs.Replay.{IsCommitted, pending}
use Rattle.block_journal.specs.declared.shape.Shape.{Shape}
use Rattle.block_journal.specs.Layout.{area_start, kept_start, kept_of, found, recovered, IsInside}

-- the block in which the journal keeps one of these
abbrev pub KeepsOne : Shape → List Entry → ℕ → Type 0
KeepsOne g entries n = (place : ℕ) × IsPlace entries place × (n ≡ kept_start g + place)

-- a block of a run, or one in which the journal keeps one of these
abbrev pub InRunOrKept : Shape → (first count : ℕ) → List Entry → ℕ → Type 0
InRunOrKept g first count entries n = InRun first count n ⊎ KeepsOne g entries n

-- the blocks that a commit may write: those of an area, and the places of these blocks
abbrev pub MayWrite : Shape → ℕ → List Entry → ℕ → Type 0
MayWrite g a entries = InRunOrKept g (area_start g a) g.area entries

-- The batches that were handed to be written, or found: the last one, and older ones.
pub record AreKnown (offered : List Batch) (last : Batch) (settled : CrashFile) : Type 0 where
  pub has_last : Contains offered last
  pub none_later : (x : Batch) → Contains offered x → x.number ≤ last.number
  pub is_last : (x : Batch) → Contains offered x → x.number ≡ last.number → x ≡ last
  pub before : (x : Batch) → Contains offered x → x.number + 1 ≡ last.number
      → replayed last.entries (replayed x.entries settled) ≡ settled

-- The crash file stands for these blocks: the area of the last batch has it, and the kept blocks are there outside its
-- places.
pub record StandsFor (g : Shape) (image : CrashFile) (last : Batch) (settled : CrashFile) : Type 0 where
  pub inside : IsInside g image
  pub here : found g image (last.number % 2) ≡ Some last
  pub committed : IsCommitted last settled (kept_of g image)

-- The crash file has this batch in its area, and the blocks that were settled before it, outside its places.
pub record IsWritten (g : Shape) (image : CrashFile) (next : Batch) (settled : CrashFile) : Type 0 where
  pub inside : IsInside g image
  pub here : found g image (next.number % 2) ≡ Some next
  pub placed : SameOutside (IsPlace next.entries) settled (kept_of g image)

-- The areas are of no use: a crash file with the same kept blocks, each of whose areas has the same batch or none,
-- stands for these blocks.
abbrev pub NeedsNoArea : Shape → CrashFile → CrashFile → Type 0
NeedsNoArea g image settled = (c : CrashFile) → kept_of g c ≡ kept_of g image
    → ((a : ℕ) → a < 2 → (found g c a ≡ None) ⊎ (found g c a ≡ found g image a)) → recovered g c ≡ settled

-- whatever a crash leaves from the one moment to the other stands for what the file stood for
abbrev pub StaysRecovered : Shape → BlocksPast → BlocksPast → Type 0
StaysRecovered g old new = LeavesOnly old new (λ c. recovered g c ≡ recovered g old.file.content)

-- whatever a crash leaves from the one moment to the other has the blocks before the journal as they were
abbrev pub LeavesBefore : Shape → BlocksPast → BlocksPast → Type 0
LeavesBefore g old new = LeavesOnly old new (λ c. (n : ℕ) → n < g.first → block c n ≡ block old.file.content n)

-- whatever a crash leaves from the one moment to the other has room for the journal, and this batch in its area
abbrev pub KeepsBatch : Shape → Batch → BlocksPast → BlocksPast → Type 0
KeepsBatch g last old new = LeavesOnly old new (λ c. IsInside g c × (found g c (last.number % 2) ≡ Some last))

-- and so for the batches that both areas had
abbrev pub KeepsAreas : Shape → BlocksPast → BlocksPast → Type 0
KeepsAreas g old new = LeavesOnly old new
    (λ c. IsInside g c × ((a : ℕ) → a < 2 → found g c a ≡ found g old.file.content a))

-- each of these batches is in one of the areas
abbrev pub AreInAreas : Shape → CrashFile → List Batch → Type 0
AreInAreas g image batches = (x : Batch) → Contains batches x → (found g image 0 ≡ Some x) ⊎ (found g image 1 ≡ Some x)

-- the blocks that a replay sets
abbrev pub pending_in : Shape → CrashFile → List Entry
pending_in g image = pending (found g image 0) (found g image 1)

-- one of them
abbrev pub IsPending : Shape → CrashFile → ℕ → Type 0
IsPending g image n = KeepsOne g (pending_in g image) n

-- calls were made that change nothing (blocks may be written back as they are)
pub record OnlyReads (old new : BlocksPast) : Type 0 where
  pub file : new.file ≡ old.file
  pub time : Elapses old new

-- Both areas were written back at a moment: the one that the batch of this number doesn't have, and then the one that
-- it has.
abbrev pub areas_back : Shape → (number moment : ℕ) → List WrittenBack → List WrittenBack
areas_back g number moment runs =
    and_back (and_back runs (area_start g ((number + 1) % 2)) g.area moment) (area_start g (number % 2)) g.area moment

-- Both areas were written back, that of the last batch behind the other one, and no other block. From this moment until
-- then the file stayed what it was.
pub record WritesBackFrom (g : Shape) (was : BlockFile) (from : ℕ) (new : BlocksPast) (before now : List WrittenBack)
    : Type 0 where
  pub last : Batch
  pub here : found g was.content (last.number % 2) ≡ Some last
  pub other : IfSome (found g was.content ((last.number + 1) % 2)) (λ x. x.number < last.number)
  pub moment : ℕ
  pub later : from ≤ moment
  pub until : moment ≤ new.moment
  pub still : (t : ℕ) → from ≤ t → t ≤ moment → new.file_at t ≡ was
  pub back : now ≡ areas_back g last.number moment before

-- the same of the file as it was before these calls, from that moment on
abbrev pub WritesBackFirst : Shape → (old new : BlocksPast) → (before now : List WrittenBack) → Type 0
WritesBackFirst g old new before now = WritesBackFrom g old.file old.moment new before now

-- The area alone that the last batch doesn't have was written back, at a moment meanwhile.
pub record OneAreaBack (g : Shape) (old new : BlocksPast) (before now : List WrittenBack) : Type 0 where
  pub last : Batch
  pub here : found g old.file.content (last.number % 2) ≡ Some last
  pub other : IfSome (found g old.file.content ((last.number + 1) % 2)) (λ x. x.number < last.number)
  pub moment : ℕ
  pub later : old.moment ≤ moment
  pub until : moment ≤ new.moment
  pub back : now ≡ and_back before (area_start g ((last.number + 1) % 2)) g.area moment

-- The file stayed what it was, and nothing was written back, or that one area.
pub record BeginsBack (g : Shape) (old new : BlocksPast) (before now : List WrittenBack) : Type 0 where
  pub reads : OnlyReads old new
  pub back : (now ≡ before) ⊎ OneAreaBack g old new before now
