-- The groups that a copy writes while a whole image waits to be made current.
use Rattle.std.specs.Prelude.{◌≡◌, ◌⊎◌, ◌≤◌, ◌-◌, ℕ, [], None, true, Some}
use Rattle.record_values.specs.declared.error.Error.TheVariants.{NoMemory, DeviceFailed}
use Rattle.store_writer.specs.Image.{BecomesImage, reach}
use Rattle.store_writer.specs.Parts.{has_failed, halves_of, image_of, log_of, synced_of, waiting_of, without_image}
use Rattle.store_writer.specs.Writer.{HasFlipped, IsFlushReply, IsLogFull}
use Rattle.store_writer.specs.declared.copying.Copying.TheVariants.{GivenUp, Steps}
use Rattle.store_writer.specs.declared.image.NewImage.{NewImage}
use Rattle.store_writer.specs.declared.image.Stage.TheVariants as stage
use Rattle.store_writer.specs.declared.writer.FlushReply.TheVariants.{Flushed}
use Rattle.store_writer.specs.declared.writer.Writer.{Writer}
use Rattle.restart.specs.Parts.{KeepsStore, copying_of, horizon_of, unwritten, writer_of}
use Rattle.restart.specs.declared.event.Reply.{Reply}
use Rattle.restart.specs.declared.event.Reply.TheVariants as reply
use Rattle.restart.specs.declared.parts.EngineParts.{EngineParts}

-- an image is whole, and the records above its base, up to its last piece, are synced
abbrev pub MayFlip : {D M : Type 0} → Writer D M → Type 0
MayFlip w = (image : NewImage) × (w.image ≡ Some image) × (image.stage ≡ stage.Whole)
    × (image.number ≤ reach image w.synced)

-- Groups were written one after another, each of as many of the records that waited as fill one, and only where the
-- image couldn't be made current yet; what was copied of the image stays, with the group in its log too.
pub data WritesGroups {D M : Type 0} (first : Writer D M) : Writer D M → Type 0 where
  no_more : WritesGroups first first
  one_more : (mid last : Writer D M) (number : ℕ) → WritesGroups first mid → ¬ MayFlip mid
      → IsFlushReply (Flushed number) mid last
      → BecomesImage (halves_of mid).geometry.slots (synced_of mid) (number - synced_of mid) (image_of mid)
      (image_of last) → WritesGroups first last

-- The image was made current without a group more: what it reached is synced, and its log is the log.
pub record Flips {D M : Type 0} (last new : Writer D M) : Type 0 where
  pub may : MayFlip last
  pub flipped : HasFlipped last new
  pub reached : (image : NewImage) → image_of last ≡ Some image → synced_of new ≡ reach image (synced_of last)

-- The image couldn't be made current, and no group more could be written, since no record waits or every slot of the
-- log is open: it was given up, and nothing else changed.
pub record GivesUp {D M : Type 0} (last new : Writer D M) : Type 0 where
  pub cannot : ¬ MayFlip last
  pub no-group : (waiting_of last ≡ []) ⊎ IsLogFull last
  pub given-up : new ≡ without_image GivenUp last

-- How a copy with this reply ends behind the groups: the image is made current, or given up; or nothing more is done,
-- for want of memory, or as the device failed.
abbrev pub EndsBy : {D M : Type 0} → Reply M → (last new : Writer D M) → Type 0
EndsBy (reply.Flipped n) last new = Flips last new
EndsBy reply.Again last new = GivesUp last new
EndsBy (reply.Refused e) last new = ((e ≡ NoMemory) × (new ≡ last))
    ⊎ ((e ≡ DeviceFailed) × (has_failed new ≡ true) × (synced_of new ≡ synced_of last))
EndsBy _ last new = ⊥

-- some groups were written, and then the copy ended as its reply tells
pub record WritesByGroups {D M : Type 0} (answer : Reply M) (first new : Writer D M) : Type 0 where
  pub last : Writer D M
  pub groups : WritesGroups first last
  pub ends : EndsBy answer last new

-- the writer has every record of the engine, and the rest of it is as it was
pub record HasAll {D M : Type 0} (engine : EngineParts D M) (w : Writer D M) : Type 0 where
  pub waiting : waiting_of w ≡ unwritten engine
  pub halves : halves_of w ≡ halves_of (writer_of engine)
  pub log : log_of w ≡ log_of (writer_of engine)
  pub image : image_of w ≡ image_of (writer_of engine)
  pub synced : synced_of w ≡ horizon_of engine

-- Where a whole image waited, nothing was written, or the writer wrote groups once it had every record.
abbrev pub CopiesByGroups : {D M : Type 0} → Reply M → EngineParts D M → EngineParts D M → Type 0
CopiesByGroups {D} {M} answer old new = copying_of old ≡ Steps None → KeepsStore old new
    ⊎ ((first : Writer D M) × HasAll old first × WritesByGroups answer first (writer_of new))
