-- When an image begins, and that the piece of it that is due may be taken.
use Rattle.std.specs.Prelude.{◌≡◌, ◌⊎◌, ◌/◌, ◌≤◌, ℕ, List, Option, None, Some, false}
use Rattle.record_values.specs.declared.pair.Mark.{Mark}
use Rattle.record_values.specs.declared.pair.Pair.{Pair}
use Rattle.model.specs.Table.{Table}
use Rattle.core_model.specs.Histories.{Opened}
use Rattle.store_image_model.specs.declared.chunk.CopyPlace.{CopyPlace}
use Rattle.store_image_model.specs.declared.chunk.CopyPlace.TheVariants as at
use Rattle.store_writer.specs.Copying.{next_place}
use Rattle.store_writer.specs.Parts.{copying_of, halves_of, has_failed, image_of, log_of}
use Rattle.store_writer.specs.Places.{AreEntriesNow, AreRowsNow}
use Rattle.store_writer.specs.Writer.{IsEntriesChunk, IsPageChunk}
use Rattle.store_writer.specs.declared.image.NewImage.{NewImage}
use Rattle.store_writer.specs.declared.writer.Writer.{Writer}
use Rattle.threads_flusher.specs.Part.{FlushValue, last_handed, run_of}

-- half the slots of the current half's log are open, where half of an odd number is rounded down
abbrev pub IsHalfFull : {D A : Type 0} → Writer D A → Type 0
IsHalfFull w = (halves_of w).geometry.slots / 2 ≤ (log_of w).open_slots

-- The piece of this place may be copied: the start always, for an image may begin anew; another where the copying has
-- come to it, or no image is under way, so that it is not taken.
abbrev pub IsPieceDue : {D A : Type 0} → CopyPlace → Writer D A → Type 0
IsPieceDue at.Start w = Unit {0}
IsPieceDue (at.Page page) w = (image_of w ≡ None) ⊎ (next_place (copying_of w) ≡ Some (at.Page page))
IsPieceDue (at.Entries above) w = (image_of w ≡ None) ⊎ (next_place (copying_of w) ≡ Some (at.Entries above))

-- the piece of an image that is due may be taken, as the last record handed in left its cells (no public clause cites
-- this)
pub record TakesNext {D A : Type 0} (o : Opened) (f : FlushValue D A) : Type 0 where
  pub page : (page : ℕ) (rows : Table) → has_failed f.writer ≡ false
      → next_place (copying_of f.writer) ≡ Some (at.Page page)
      → AreRowsNow (run_of o f) page rows
      → (i : NewImage) → image_of f.writer ≡ Some i → IsPageChunk (run_of o f) i (last_handed o f) page rows
  pub entries : (above : Option Pair) (entries : List (Pair × Mark)) → has_failed f.writer ≡ false
      → next_place (copying_of f.writer) ≡ Some (at.Entries above)
      → AreEntriesNow (run_of o f) above entries
      → (i : NewImage) → image_of f.writer ≡ Some i → IsEntriesChunk (run_of o f) i (last_handed o f) entries
