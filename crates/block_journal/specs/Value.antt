-- What a journal shows.
use Rattle.std.specs.Prelude.{◌≡◌, ◌⊎◌, ℕ, ◌+◌, ◌-◌, ◌^◌, ◌<◌, Bool, false, List, [], ◌∷◌, ◌++◌, length}
use Rattle.block_device.specs.Blocks.{CrashFile, IsSynced}
use Rattle.block_device.specs.BlocksPast.{BlocksPast, LeavesOnly}
use Rattle.block_batch.specs.Batch.{Entry, Batch, replayed}
use Rattle.block_journal.specs.declared.shape.Shape.{Shape}
use Rattle.block_journal.specs.Layout.{kept_of, recovered, IsHonest}
use Rattle.block_journal.specs.Journal.{AreKnown, StandsFor}

-- The file below it, and where it has its parts; the batch that was committed last, and the blocks that are gathered
-- for the next one; the batches that were handed to be written, or found as the journal was opened; whether a call has
-- failed, and how many calls were refused for that.
pub record JournalValue (B : Type 0) : Type 0 where
  pub below : B
  pub shape : Shape
  pub last : Batch
  pub next : List Entry
  pub offered : List Batch
  pub has_failed : Bool
  pub refused : ℕ

module _ {B : Type 0} where
  -- for how many blocks more there is room
  abbrev pub room_of : JournalValue B → ℕ
  room_of j = j.shape.area - 1 - length j.next

  -- how many calls have failed
  abbrev pub failures_of : (B → ℕ) → JournalValue B → ℕ
  failures_of failures j = failures j.below + j.refused

  -- the batch that a commit makes
  abbrev pub next_batch : JournalValue B → Batch
  next_batch j = record { number = j.last.number + 1; entries = j.next }

  -- a commit can be made: none has failed, and there is a number more
  abbrev pub CanCommit : JournalValue B → Type 0
  CanCommit j = (j.has_failed ≡ false) × (j.last.number < 2 ^ 64 - 1)

  -- the batch of a commit was handed to be written, if it could be made
  pub record Offers (old new : JournalValue B) : Type 0 where
    pub next : CanCommit old → new.offered ≡ old.offered ++ next_batch old ∷ []
    pub none : ¬ CanCommit old → new.offered ≡ old.offered

  module _ (past_of : B → BlocksPast) where
    -- the kept blocks as the last batch left them
    abbrev pub settled_of : JournalValue B → CrashFile
    settled_of j = replayed j.last.entries (kept_of j.shape (past_of j.below).file.content)

    -- the kept blocks with those that are gathered
    abbrev pub content_of : JournalValue B → CrashFile
    content_of j = replayed j.next (settled_of j)

    -- no call has failed: the file stands for the settled blocks, the premise holds of it, and no block is loose
    pub record IsReady (j : JournalValue B) : Type 0 where
      pub stands : StandsFor j.shape (past_of j.below).file.content j.last (settled_of j)
      pub known : AreKnown j.offered j.last (settled_of j)
      pub honest : IsHonest j.offered j.shape (past_of j.below).file.content
      pub synced : IsSynced (past_of j.below).file

    -- A crash at any moment from one state to another leaves, under the premise, what was settled, or that with the
    -- blocks that were gathered.
    abbrev pub LeavesEither : JournalValue B → JournalValue B → Type 0
    LeavesEither old new = LeavesOnly (past_of old.below) (past_of new.below) (λ c. IsHonest new.offered old.shape c
        → (recovered old.shape c ≡ settled_of old) ⊎ (recovered old.shape c ≡ content_of old))
