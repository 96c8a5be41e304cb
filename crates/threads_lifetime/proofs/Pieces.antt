-- A whole image of all that was made, and its flip.
use Rattle.std.proofs.Common.{◌≡◌, ◌≤◌, ◌++◌, ℕ, [], List, Some, sym, ap, ◌∙◌, subst, arith, append-nil}
use Rattle.record_values.specs.GeometryValue.{GeometryValue}
use Rattle.records.specs.RecordValue.{RecordValue}
use Rattle.model.specs.Redo.{cells_of}
use Rattle.core_model.specs.Histories.{Opened}
use Rattle.core_copies.specs.Shown.{IsOfGeometry}
use Rattle.sector_device.specs.DevicePast.{DevicePast}
use Rattle.store_image_half.specs.Source.{FitsImage}
use Rattle.store_image_model.specs.Run.{Run, cells_at, end_of}
use Rattle.store_image_model.specs.declared.chunk.Piece.{Piece}
use Rattle.store_image_model.specs.declared.chunk.Piece.TheVariants.{Entries, Page, Start, Whole}
use Rattle.locked_core.specs.Locked.{LockedValue}
use Rattle.locked_core.specs.Made.{IsAllOf}
use Rattle.locked_core.specs.Made as lock
use Rattle.store_writer.specs.Image.{reach}
use Rattle.store_writer.specs.Parts.{halves_of, image_of, synced_of}
use Rattle.store_writer.specs.Writer.{CanFlip, HasBegun, IsChunk, IsFlipReply, IsStepReply}
use Rattle.store_writer.specs.declared.image.NewImage.{NewImage}
use Rattle.store_writer.specs.declared.image.Stage.TheVariants as stage
use Rattle.store_writer.specs.declared.writer.FlipReply.{FlipReply}
use Rattle.store_writer.specs.declared.writer.FlipReply.TheVariants.{Behind, Flipped}
use Rattle.store_writer.specs.declared.writer.StepReply.{StepReply}
use Rattle.store_writer.specs.declared.writer.StepReply.TheVariants.{StartAgain, Taken}
use Rattle.store_writer.specs.declared.writer.Writer.{Writer}
use Rattle.threads_flusher.specs.Part.{FlushValue, IsFlusher, last_handed, run_of}

-- ---- the image

module _ {D A : Type 0} {marks : ℕ → ℕ → Type 0} (past_of : D → DevicePast) (o : Opened) (f : FlushValue D A) (is : IsFlusher past_of marks o f)
    (l : LockedValue) (all : f.handed ≡ l.pushed) (none : l.core.outbox ≡ [])
    (last : (g : GeometryValue) → l.core.last ≡ end_of (lock.run_of g o l)) (number : ℕ) (told : number ≡ l.core.last) where
  abbrev g : GeometryValue
  g = (halves_of f.writer).geometry

  made_is : l.pushed ++ l.core.outbox ≡ f.handed
  made_is = ap (λ x. l.pushed ++ x) none ∙ (append-nil l.pushed ∙ sym all)

  same_run : lock.run_of g o l ≡ run_of o f
  same_run = ap (λ (rs : List RecordValue). record (run_of o f) { records = rs }) made_is

  pub number_is : number ≡ last_handed o f
  number_is = told ∙ (last g ∙ ap end_of same_run)

  pub whole_chunk : {A : Type 0} (store : (x : GeometryValue) → x.pages ≡ o.pages → x.entries ≡ o.places → IsOfGeometry l.core x) (piece : Piece A)
      → IsAllOf l.core (cells_at (lock.run_of g o l) number) piece → IsChunk (run_of o f) f.writer number piece
  whole_chunk store (Whole copied) of =
      let same : cells_of copied ≡ cells_at (run_of o f) number = of.0 ∙ ap (λ (r : Run). cells_at r number) same_run in
      record {
        late = omega (arith, number_is, is.writer.reached);
        made = omega (arith, number_is);
        small = omega (arith, number_is, is.writer.small);
        cells-are = same;
        fits = subst (FitsImage g) (sym of.0) (of.1 g (store g is.pages is.places));
      }
  whole_chunk store (Start life lists) of = absurd of
  whole_chunk store (Page page rows) of = absurd of
  whole_chunk store (Entries entries) of = absurd of

-- a whole image is taken
pub record HasImage {D A : Type 0} (number : ℕ) (old new : Writer D A) : Type 0 where
  pub image : NewImage
  pub there : image_of new ≡ Some image
  pub begun : HasBegun number stage.Whole image
  pub synced : synced_of new ≡ synced_of old

pub image_taken : {D A : Type 0} (number : ℕ) (v : LockedValue) (run : Run) (piece : Piece A) (old new : Writer D A) (reply : StepReply)
    → IsAllOf v.core (cells_at run number) piece → IsStepReply number piece reply old new → HasImage number old new
image_taken number v run (Whole copied) old new Taken of is = record { image = is.1.0; there = is.1.1.0; begun = is.1.2; synced = is.1.1.4 }
image_taken number v run (Whole copied) old new StartAgain of is = absurd is.1
image_taken number v run (Start life lists) old new reply of is = absurd of
image_taken number v run (Page page rows) old new reply of is = absurd of
image_taken number v run (Entries entries) old new reply of is = absurd of

-- and so it can be made current, and all records are synced then
module _ {D A : Type 0} (number handed : ℕ) (old mid new : Writer D A) (has : HasImage number old mid) (is : number ≡ handed)
    (reached : synced_of old ≤ handed) where
  can_flip : CanFlip handed mid
  can_flip = (has.image, has.there, has.begun.2, omega (arith, has.begun.1, is), omega (arith, has.begun.0, has.begun.1))

  pub all_synced : (reply : FlipReply) → IsFlipReply handed reply mid new → synced_of new ≡ handed
  all_synced (Flipped n) flipped = let to : n ≡ reach has.image (synced_of mid) = flipped.3 has.image has.there in
      omega (arith, flipped.0, to, has.begun.0, has.synced, is, reached)
  all_synced Behind flipped = absurd (flipped.1 can_flip)
