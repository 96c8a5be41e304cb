-- What is answered to a copy.
use Rattle.std.specs.Prelude.{◌≡◌, ◌≢◌, ◌⊎◌, ◌≤◌, ◌<◌, ◌+◌, ◌-◌, ◌/◌, ℕ, nat_lt, if◌then◌else◌, true, false, drop, List}
use Rattle.std.specs.Prelude.{[], ◌∷◌, Option, Some, None}
use Rattle.record_values.specs.GeometryValue.{GeometryValue}
use Rattle.record_values.specs.declared.error.Error.{Error}
use Rattle.record_values.specs.declared.error.Error.TheVariants.{NoMemory, DeviceFailed}
use Rattle.model.specs.Cells.{Cells}
use Rattle.core_copies.specs.Pieces.{IsPieceOf}
use Rattle.core_copies.specs.Shown.{IsCellsOf}
use Rattle.flip_image.specs.Layout.{other}
use Rattle.store_image_model.specs.declared.chunk.TheConstants.{CHUNK_ENTRIES}
use Rattle.store_image_model.specs.declared.chunk.CopyPlace.{CopyPlace}
use Rattle.store_image_model.specs.declared.chunk.CopyPlace.TheVariants as at
use Rattle.store_image_model.specs.declared.chunk.Piece.{Piece}
use Rattle.store_image_model.specs.Places.{place_behind}
use Rattle.core_parts.specs.View.{CoreValue}
use Rattle.sector_device.specs.DevicePast.{Rises}
use Rattle.store_writer.specs.Copying.{next_place, steps_of_image}
use Rattle.store_writer.specs.Image.{reach}
use Rattle.store_writer.specs.Parts.{halves_of, image_of}
use Rattle.store_writer.specs.Writer.{HasPiece, IsLogFull, MustStartAgain}
use Rattle.store_writer.specs.declared.copying.Copying.{Copying}
use Rattle.store_writer.specs.declared.copying.Copying.TheVariants.{Idle, Steps, GivenUp}
use Rattle.store_writer.specs.declared.image.NewImage.{NewImage}
use Rattle.store_writer.specs.declared.image.Stage.{Stage}
use Rattle.store_writer.specs.declared.image.Stage.TheVariants as stage
use Rattle.store_writer.specs.declared.writer.Writer.{Writer}
use Rattle.restart.specs.declared.event.Event.{Event}
use Rattle.restart.specs.declared.event.Event.TheVariants as event
use Rattle.restart.specs.declared.event.Reply.{Reply}
use Rattle.restart.specs.declared.event.Reply.TheVariants as reply
use Rattle.restart.specs.declared.parts.EngineParts.{EngineParts}
use Rattle.restart.specs.Groups.{HasAll, MayFlip, WritesByGroups}
use Rattle.restart.specs.Parts.{KeepsStore, copying_of, core_of, device_of, has_failed, horizon_of, log_of, unhanded}
use Rattle.restart.specs.Parts.{unwritten, writer_of}

-- ---- how many copies are left

-- how many entries were copied
abbrev pub entries_at : Stage → ℕ
entries_at stage.Whole = 0
entries_at (stage.Partly pages count highest life) = count

-- the entries copied so far
abbrev pub entries_copied : Option NewImage → ℕ
entries_copied None = 0
entries_copied (Some image) = entries_at image.stage

-- From a whole image on: one copy makes it current. Where records were made since it began it may be given up by that
-- copy, and the next one takes and flips another; and so it is where a flush gave it up.
abbrev pub copies_to_flip : (last : ℕ) → Option NewImage → ℕ
copies_to_flip last None = 2
copies_to_flip last (Some image) = if nat_lt image.base last then 2 else 1

-- the most copies that an image takes: one for each of its steps
abbrev pub most_copies : GeometryValue → ℕ
most_copies g = steps_of_image g

-- at most so many are left
abbrev pub left_at : GeometryValue → (last : ℕ) → Option NewImage → Copying → ℕ
left_at g last image Idle = most_copies g
left_at g last image (Steps None) = copies_to_flip last image
left_at g last image (Steps (Some at.Start)) = most_copies g
left_at g last image (Steps (Some (at.Page page))) =
    (g.pages - page) + (g.entries / CHUNK_ENTRIES + 1) + copies_to_flip last image
left_at g last image (Steps (Some (at.Entries above))) =
    ((g.entries - entries_copied image) / CHUNK_ENTRIES + 1) + copies_to_flip last image
left_at g last image GivenUp = 1

-- How many copies are left to a flip, if they come one behind another and none is refused: no more than these.
abbrev pub copies_left : {D M : Type 0} → EngineParts D M → ℕ
copies_left engine = left_at engine.geometry (core_of engine).last (image_of (writer_of engine)) (copying_of engine)

-- ---- what a copy leaves

-- No record is lost: those that are synced now wait no more, and the others wait. The core keeps the rest of its state,
-- and the device's count of failures doesn't fall.
pub record KeepsAll {D M : Type 0} (failures : D → ℕ) (old new : EngineParts D M) : Type 0 where
  pub horizon : horizon_of old ≤ horizon_of new
  pub left : unwritten new ≡ drop (horizon_of new - horizon_of old) (unwritten old)
  pub core : core_of new ≡ record (core_of old) { outbox = (core_of new).outbox }
  pub later : failures (device_of old) ≤ failures (device_of new)

-- and no call of the device failed
pub record Succeeds {D M : Type 0} (failures : D → ℕ) (old new : EngineParts D M) : Type 0 where
  pub keeps : KeepsAll failures old new
  pub sound-before : has_failed old ≡ false
  pub sound : has_failed new ≡ false
  pub quiet : failures (device_of new) ≡ failures (device_of old)

-- what an image of the core has at this place
abbrev pub IsPieceNow : {M : Type 0} → CoreValue → CopyPlace → Piece M → Type 0
IsPieceNow v place piece = (cells : Cells) → IsCellsOf v cells → IsPieceOf v cells place piece

-- The next piece may be taken, and it was: the image has it as the last record made left it, and the copying goes on
-- behind it. No group was written.
pub record TakesPiece {D M : Type 0} (old new : EngineParts D M) : Type 0 where
  pub place : CopyPlace
  pub next : next_place (copying_of old) ≡ Some place
  pub piece : Piece M
  pub piece-is : IsPieceNow (core_of old) place piece
  pub may : ¬ MustStartAgain piece (writer_of old)
  pub image : NewImage
  pub image-is : image_of (writer_of new) ≡ Some image
  pub has : HasPiece (core_of old).last piece (writer_of old) image
  pub behind : copying_of new ≡ Steps (place_behind old.geometry.pages piece)
  pub halves : halves_of (writer_of new) ≡ halves_of (writer_of old)
  pub log : log_of new ≡ log_of old
  pub horizon : horizon_of new ≡ horizon_of old

-- The next piece can't be taken: every slot of the current log is open, a flush gave the image up, or its entries would
-- pass the geometry's. The image is given up, and nothing was written.
pub record CannotTake {D M : Type 0} (old new : EngineParts D M) : Type 0 where
  pub place : CopyPlace
  pub next : next_place (copying_of old) ≡ Some place
  pub piece : Piece M
  pub piece-is : IsPieceNow (core_of old) place piece
  pub must : MustStartAgain piece (writer_of old)
  pub gone : image_of (writer_of new) ≡ None
  pub device : device_of new ≡ device_of old
  pub halves : halves_of (writer_of new) ≡ halves_of (writer_of old)
  pub log : log_of new ≡ log_of old
  pub horizon : horizon_of new ≡ horizon_of old

-- Every piece was taken, and the image couldn't be made current. The writer, which had every record then, wrote group
-- after group; and as no more could be written, and the image couldn't be made current even then, it was given up.
pub record CannotFlip {D M : Type 0} (old new : EngineParts D M) : Type 0 where
  pub whole : copying_of old ≡ Steps None
  pub first : Writer D M
  pub all : HasAll old first
  pub groups : WritesByGroups reply.Again first (writer_of new)

-- The image was made current without a group more: its log is the log, and what it reached is synced.
pub record IsFlippedAtOnce {D M : Type 0} (old new : EngineParts D M) (image : NewImage) : Type 0 where
  pub log : log_of new ≡ image.log
  pub reached : horizon_of new ≡ reach image (horizon_of old)

-- The half of a whole image is current, and its log has groups in half the slots at most: where there is more than one
-- slot, or the image was taken at once, room for a group. An image that was copied in steps and could be made current
-- waited for no group; one that was taken at once has every record made, and its log is empty.
pub record MakesCurrent {D M : Type 0} (old new : EngineParts D M) : Type 0 where
  pub whole : next_place (copying_of old) ≡ None
  pub turned : halves_of (writer_of new) ≡ record {
    geometry = (halves_of (writer_of old)).geometry;
    current = other (halves_of (writer_of old)).current;
  }
  pub none : image_of (writer_of new) ≡ None
  pub idle : copying_of new ≡ Idle
  pub room : (log_of new).open_slots ≤ (halves_of (writer_of new)).geometry.slots / 2
  pub no-group : copying_of old ≡ Steps None → MayFlip (writer_of old) → (image : NewImage)
      → image_of (writer_of old) ≡ Some image → IsFlippedAtOnce old new image
  pub emptied : copying_of old ≡ GivenUp → (log_of new).open_slots ≡ 0
  pub all : copying_of old ≡ GivenUp → unwritten new ≡ []

-- Memory was wanted: for records that are yet to be handed over; or for a piece, or a whole image; or for a group, as
-- the image can't be made current yet, a record waits, and the log has a slot for it.
abbrev pub WantsMemory : {D M : Type 0} → EngineParts D M → EngineParts D M → Type 0
WantsMemory old new = (unhanded new ≢ []) ⊎ ((copying_of old ≢ Steps None)
    ⊎ ((¬ MayFlip (writer_of new)) × (unwritten new ≢ []) × (¬ IsLogFull (writer_of new))))

-- There was no memory, and the copying is where it was, with no more copies left. Nothing was written, but where a
-- whole image waits for groups: then some may have been, and one of them may have given the image up.
pub record IsPutOff {D M : Type 0} (failures : D → ℕ) (old new : EngineParts D M) : Type 0 where
  pub succeeds : Succeeds failures old new
  pub copying : copying_of new ≡ copying_of old
  pub left : copies_left new ≤ copies_left old
  pub halves : halves_of (writer_of new) ≡ halves_of (writer_of old)
  pub keeps : copying_of old ≢ Steps None → KeepsStore old new
  pub wants : WantsMemory old new

-- which answer a copy gives, and what it leaves
abbrev pub IsCopyAnswer : {D M : Type 0} → (D → ℕ) → Reply M → EngineParts D M → EngineParts D M → Type 0
-- A piece of an image was taken. Fewer copies are left.
IsCopyAnswer failures reply.Copied old new = Succeeds failures old new × TakesPiece old new
    × (copies_left new < copies_left old)
-- a whole image is current
IsCopyAnswer failures (reply.Flipped n) old new = Succeeds failures old new × (n ≡ horizon_of new)
    × MakesCurrent old new
-- An image that was copied in steps is given up, behind the groups that it waited for; one that is taken at once isn't.
-- Fewer copies are left.
IsCopyAnswer failures reply.Again old new = Succeeds failures old new × (CannotTake old new ⊎ CannotFlip old new)
    × (copying_of new ≡ GivenUp) × (copies_left new < copies_left old)
-- There was no memory to hand the records over, for a copy, or for a group; or the device failed, and an engine whose
-- device failed answers so from then on, and leaves it alone.
IsCopyAnswer failures (reply.Refused e) old new =
    ((e ≡ NoMemory) × IsPutOff failures old new)
    ⊎ ((e ≡ DeviceFailed) × (has_failed new ≡ true) × (has_failed old ≡ false
    → Rises (failures (device_of old)) (failures (device_of new))) × (has_failed old ≡ true → new ≡ old)
    × KeepsAll failures old new)
IsCopyAnswer failures (reply.Txn t) old new = ⊥
IsCopyAnswer failures (reply.Rid r) old new = ⊥
IsCopyAnswer failures reply.Stepped old new = ⊥
IsCopyAnswer failures reply.Undone old new = ⊥
IsCopyAnswer failures reply.Empty old new = ⊥
IsCopyAnswer failures reply.Ended old new = ⊥
IsCopyAnswer failures (reply.Ticket t) old new = ⊥
IsCopyAnswer failures (reply.Built b) old new = ⊥
IsCopyAnswer failures (reply.Cleaned c) old new = ⊥
IsCopyAnswer failures (reply.Horizon m) old new = ⊥
IsCopyAnswer failures reply.LogFull old new = ⊥
IsCopyAnswer failures (reply.Row row) old new = ⊥
IsCopyAnswer failures (reply.Found rids) old new = ⊥
IsCopyAnswer failures (reply.Life life) old new = ⊥
IsCopyAnswer failures reply.Skipped old new = ⊥

-- ---- copies in a row

-- one request to copy for each of these replies
abbrev pub copies : {M : Type 0} → List (Reply M) → List Event
copies [] = []
copies (r ∷ replies) = event.Copy ∷ copies replies

-- a refusal
abbrev pub IsRefusal : {M : Type 0} → Reply M → Type 0
IsRefusal r = (e : Error) × (r ≡ reply.Refused e)

-- an image became current
abbrev pub IsFlip : {M : Type 0} → Reply M → Type 0
IsFlip r = (n : ℕ) × (r ≡ reply.Flipped n)

-- one of the replies tells of a flip
abbrev pub HaveFlip : {M : Type 0} → List (Reply M) → Type 0
HaveFlip [] = ⊥
HaveFlip (r ∷ replies) = IsFlip r ⊎ HaveFlip replies

-- none of them is a refusal
abbrev pub HaveNoRefusal : {M : Type 0} → List (Reply M) → Type 0
HaveNoRefusal [] = Unit {0}
HaveNoRefusal (r ∷ replies) = (¬ IsRefusal r) × HaveNoRefusal replies
