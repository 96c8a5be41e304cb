-- The states that the flush loop goes through.
use Rattle.std.specs.Prelude.{◌≡◌, ◌⊎◌, ◌≤◌, ◌-◌, ◌/◌, ℕ, nat_le, if◌then◌else◌, List, [], ◌∷◌, Option, None, Some}
use Rattle.std.specs.Prelude.{Result, Ok, IfErr, IfOk, OnErr, OnOk, false, true}
use Rattle.record_values.specs.declared.error.Error.{Error}
use Rattle.record_values.specs.declared.error.Error.TheVariants.{DeviceFailed}
use Rattle.record_values.specs.declared.pair.Pair.{Pair}
use Rattle.core_model.specs.Histories.{Opened}
use Rattle.sector_device.specs.DevicePast.{DevicePast, LeavesOnly}
use Rattle.store_image_model.specs.declared.chunk.CopyPlace.TheVariants as at
use Rattle.store_image_model.specs.declared.chunk.Piece.{Piece}
use Rattle.store_image_model.specs.declared.chunk.Piece.TheVariants.{Whole, Start, Page, Entries}
use Rattle.store_writer.specs.Copying.{next_place}
use Rattle.store_writer.specs.Image.{BecomesImage}
use Rattle.store_writer.specs.Parts.{copying_of, device_of, halves_of, has_failed, image_of, log_of, synced_of}
use Rattle.store_writer.specs.Parts.{without_image}
use Rattle.store_writer.specs.Writer.{CanFlip, HasFailed, IsAsBefore, IsBeforeFlush, IsChunk, IsFlipReply, IsFlushReply}
use Rattle.store_writer.specs.Writer.{IsLogFull, IsNotFlushed, IsStepReply}
use Rattle.store_writer.specs.declared.copying.Copying.{Copying}
use Rattle.store_writer.specs.declared.writer.FlushReply.TheVariants.{Flushed}
use Rattle.store_writer.specs.declared.writer.FlipReply.{FlipReply}
use Rattle.store_writer.specs.declared.writer.FlushReply.{FlushReply}
use Rattle.store_writer.specs.declared.writer.StepReply.{StepReply}
use Rattle.store_writer.specs.declared.copying.Copying.TheVariants.{GivenUp, Idle, Steps}
use Rattle.threads_flusher.specs.Going.{GoesOn, LeavesImage, TakesIn}
use Rattle.threads_flusher.specs.Images.{IsHalfFull}
use Rattle.threads_flusher.specs.Part.{FlushValue, FlushLeaves, Publishes, last_handed, run_of}
use Rattle.threads_loops.specs.Copying.{IsCopied, IsDue}

-- One group was flushed, with this answer of the writer. The copying of an image stays where it is; and the image
-- becomes what such a group makes of it: its log has the records above its base too, or it is given up, where its log
-- had groups in half the slots.
pub record IsFlush {D A : Type 0} (failures : D → ℕ) (old new : FlushValue D A) : Type 0 where
  pub result : Result FlushReply Error
  pub flushed : IfOk result (λ reply. IsFlushReply reply old.writer new.writer)
  pub sound : OnOk result ((has_failed old.writer ≡ false) × (has_failed new.writer ≡ false))
  pub err : IfErr result (λ e. IsNotFlushed failures e old.writer new.writer)
  pub left : OnErr result (IsBeforeFlush old.writer new.writer)
  pub copying : copying_of new.writer ≡ copying_of old.writer
  pub image : (n : ℕ) → result ≡ Ok (Flushed n) → BecomesImage (halves_of old.writer).geometry.slots
      (synced_of old.writer) (n - synced_of old.writer) (image_of old.writer) (image_of new.writer)

-- the piece of an image that comes next, where its copying is here: all cells at once only where one was given up
abbrev pub IsNextPiece : {A : Type 0} → Piece A → Copying → Type 0
IsNextPiece (Whole cells) copying = copying ≡ GivenUp
IsNextPiece (Start life lists) copying = next_place copying ≡ Some at.Start
IsNextPiece (Page page rows) copying = next_place copying ≡ Some (at.Page page)
IsNextPiece (Entries entries) copying = (above : Option Pair) × (next_place copying ≡ Some (at.Entries above))

-- The next chunk of an image was offered, which may be taken, with this answer; or it is as if one had been, of a page
-- that the image's half has. Half the slots of the log were full then, or more, unless the device had failed: so no
-- image is begun earlier.
pub record IsStep {D A : Type 0} (failures : D → ℕ) (o : Opened) (old new : FlushValue D A) : Type 0 where
  pub number : ℕ
  pub piece : Piece A
  pub chunk : IsChunk (run_of o old) old.writer number piece
  pub next : IsNextPiece piece (copying_of old.writer)
  pub late : has_failed old.writer ≡ false → IsHalfFull old.writer
  pub result : Result StepReply Error
  pub stepped : IfOk result (λ reply. IsStepReply number piece reply old.writer new.writer)
  pub sound : OnOk result ((has_failed old.writer ≡ false) × (has_failed new.writer ≡ false))
  pub err : IfErr result (λ e. HasFailed failures e old.writer new.writer)
  pub left : OnErr result (IsAsBefore old.writer new.writer)

-- An image was to be made current, with this answer.
pub record IsFlip {D A : Type 0} (failures : D → ℕ) (o : Opened) (old new : FlushValue D A) : Type 0 where
  pub result : Result FlipReply Error
  pub flipped : IfOk result (λ reply. IsFlipReply (last_handed o old) reply old.writer new.writer)
  pub sound : OnOk result ((has_failed old.writer ≡ false) × (has_failed new.writer ≡ false))
  pub err : IfErr result (λ e. HasFailed failures e old.writer new.writer)
  pub left : OnErr result (IsAsBefore old.writer new.writer)

-- One call of the writer: no record was popped or handed in, and what is published is what is synced now. A crash at
-- any moment of it leaves what one before it could, with all that were synced then. Unless the device failed in it or
-- before, it counted no failure.
pub record Calls {D A : Type 0} (past_of : D → DevicePast) (marks : ℕ → ℕ → Type 0) (failures : D
    → ℕ) (o : Opened) (old new : FlushValue D A) : Type 0 where
  pub made : IsFlush failures old new ⊎ (IsStep failures o old new ⊎ IsFlip failures o old new)
  pub publishes : Publishes past_of marks old new
  pub geometry : (halves_of new.writer).geometry ≡ (halves_of old.writer).geometry
  pub rises : synced_of old.writer ≤ synced_of new.writer
  pub images : LeavesOnly (past_of (device_of old.writer)) (past_of (device_of new.writer)) (FlushLeaves o old)
  pub later : failures (device_of old.writer) ≤ failures (device_of new.writer)
  pub quiet : has_failed new.writer ≡ false → failures (device_of new.writer) ≡ failures (device_of old.writer)

-- A whole image was given up: another is to be taken at once. A flush had given it up, and it is gone already; or every
-- slot of the log is open, and it can't be made current.
abbrev pub DropsImage : {D A : Type 0} → Opened → FlushValue D A → FlushValue D A → Type 0
DropsImage o old new = (copying_of old.writer ≡ Steps None)
    × ((image_of old.writer ≡ None) ⊎ (IsLogFull old.writer × (¬ CanFlip (last_handed o old) old.writer)))
    × LeavesImage GivenUp old new

-- from each state to the next by records that were popped and handed in, or by one call of the writer, or as an image
-- was given up; and it is the last one now
abbrev pub GoesThrough : {D A : Type 0} → (D → DevicePast) → (marks : ℕ → ℕ → Type 0) → (D → ℕ) → Opened
    → FlushValue D A → List (FlushValue D A) → FlushValue D A → Type 0
GoesThrough past_of marks failures o old [] new = new ≡ old
GoesThrough past_of marks failures o old (next ∷ states) new = (TakesIn old next
    ⊎ (Calls past_of marks failures o old next ⊎ DropsImage o old next))
    × GoesThrough past_of marks failures o next states new

-- there are such states
pub record PassesThrough {D A : Type 0} (past_of : D → DevicePast) (marks : ℕ → ℕ → Type 0) (failures : D
    → ℕ) (o : Opened) (old new : FlushValue D A) : Type 0 where
  pub states : List (FlushValue D A)
  pub steps : GoesThrough past_of marks failures o old states new

-- Pages of an image under way were passed over, and nothing was written. (No public clause cites this.)
pub record HasPassedPages {D A : Type 0} (past_of : D → DevicePast) (marks : ℕ → ℕ → Type 0) (failures : D
    → ℕ) (o : Opened) (old new : FlushValue D A) : Type 0 where
  pub through : PassesThrough past_of marks failures o old new
  pub late : IsDue new
  pub copied : IsCopied old new
  pub device : device_of new.writer ≡ device_of old.writer

-- The flusher as a loop takes it up: it goes on with an image that is under way, where half the slots of the log are
-- open, as they are since a loop began one. Any other is forgotten.
abbrev pub taken_up : {D A : Type 0} → FlushValue D A → FlushValue D A
taken_up f = if nat_le ((halves_of f.writer).geometry.slots / 2) (log_of f.writer).open_slots then f else record f {
  writer = without_image Idle f.writer;
}

-- A loop takes up what an earlier one left, and goes on through such states.
abbrev pub RunsThrough : {D A : Type 0} → (D → DevicePast) → (marks : ℕ → ℕ → Type 0) → (D → ℕ) → Opened
    → FlushValue D A → FlushValue D A → Type 0
RunsThrough past_of marks failures o old new = PassesThrough past_of marks failures o (taken_up old) new

-- A loop has gone on so, and ended with `Ok` where its device has not failed, or else with `DeviceFailed`.
pub record HasFlushed {D A : Type 0} (past_of : D → DevicePast) (marks : ℕ → ℕ → Type 0) (failures : D
    → ℕ) (o : Opened) (old new : FlushValue D A) (ended : Result (Unit {0}) Error) : Type 0 where
  pub goes_on : GoesOn past_of failures o old new
  pub through : RunsThrough past_of marks failures o old new
  pub sound : OnOk ended (has_failed new.writer ≡ false)
  pub failed : IfErr ended (λ e. (e ≡ DeviceFailed) × (has_failed new.writer ≡ true))

-- a loop that may leave this has gone on so
abbrev pub FlushesSo : {D A : Type 0} → (D → DevicePast) → (marks : ℕ → ℕ → Type 0) → (D → ℕ) → Opened
    → (leaves : FlushValue D A → FlushValue D A → Result (Unit {0}) Error → Type 0) → Type 0
FlushesSo {D} {A} past_of marks failures o leaves = (old new : FlushValue D A) (ended : Result (Unit {0}) Error)
    → leaves old new ended → HasFlushed past_of marks failures o old new ended
