-- What is copied under the lock may be taken, where every record made was handed in.
use Rattle.std.proofs.Common.{◌≡◌, ◌⊎◌, ◌≤◌, ◌<◌, ◌+◌, ℕ, false, List, [], ◌∷◌, ◌++◌, length, take, None, Option, Some, refl, sym, ap, ◌∙◌, subst, arith}
use Rattle.std.proofs.Common.{⊎_elim}
use Rattle.std.proofs.Common.{append-nil, length-append, length-take}
use Rattle.std.proofs.lemmas.List.{take_all}
use Rattle.record_values.specs.GeometryValue.{GeometryValue}
use Rattle.records.specs.RecordValue.{RecordValue}
use Rattle.model.specs.Cells.{Cells}
use Rattle.model.specs.Inside.{AreInside}
use Rattle.model.specs.Redo.{cells_of}
use Rattle.core_model.specs.Histories.{Opened}
use Rattle.locked_core.specs.Pieces.{IsPieceOf}
use Rattle.locked_core.specs.Shown.{IsOfGeometry}
use Rattle.sector_device.specs.DevicePast.{DevicePast}
use Rattle.store_image_half.specs.Source.{FitsImage}
use Rattle.store_image_model.specs.Run.{Run, cells_at, end_of}
use Rattle.store_image_model.specs.declared.chunk.CopyPlace.{CopyPlace}
use Rattle.store_image_model.specs.declared.chunk.CopyPlace.TheVariants as at
use Rattle.store_image_model.specs.declared.chunk.Piece.{Piece}
use Rattle.store_image_model.specs.declared.chunk.Piece.TheVariants.{Entries, Page, Start, Whole}
use Rattle.locked_core.specs.Locked.{LockedValue}
use Rattle.locked_core.specs.Made.{IsAllOf}
use Rattle.locked_core.specs.Made as lock
use Rattle.store_writer.specs.Copying.{next_place}
use Rattle.store_writer.specs.Parts.{copying_of, halves_of, has_failed, image_of}
use Rattle.store_writer.specs.Writer.{IsChunk, IsPageChunk}
use Rattle.store_writer.specs.declared.image.NewImage.{NewImage}
use Rattle.store_writer.specs.declared.copying.Copying.{Copying}
use Rattle.threads_flusher.specs.Going.{TakesIn}
use Rattle.threads_flusher.specs.Images.{IsPieceDue, TakesNext}
use Rattle.threads_flusher.specs.Part.{FlushValue, IsFlusher, last_handed, run_of}

-- ---- every record made was handed in

none_longer : (l : List RecordValue) → length l ≤ 0 → l ≡ []
none_longer [] le = refl
none_longer (x ∷ l) le = absurd (omega (arith, le))

-- as many were handed in as were made
pub all_made : (handed pushed outbox : List RecordValue) → handed ≡ take (length handed) pushed → length (pushed ++ outbox) ≤ length handed
    → pushed ++ outbox ≡ handed
all_made handed pushed outbox is long =
    let size : length (pushed ++ outbox) ≡ length pushed + length outbox = length-append pushed outbox in
    let short : length handed ≤ length pushed = omega (arith, ap length is, length-take (length handed) pushed) in
    ap (λ l. pushed ++ l) (none_longer outbox (omega (arith, size, short, long))) ∙ append-nil pushed
    ∙ sym (is ∙ take_all (length handed) pushed (omega (arith, size, long)))

-- as many were popped as were pushed, and all of them were handed in
pub all_pushed : (from : ℕ) (handed popped pushed now : List RecordValue) → handed ≡ popped → popped ≡ take (length popped) pushed
    → from + length popped ≡ from + length pushed → now ≡ pushed → handed ≡ now
all_pushed from handed popped pushed now all is many same = all ∙ is ∙ take_all (length popped) pushed (omega (arith, many)) ∙ sym same

-- what is the whole list begins it
pub begins_with : (handed pushed : List RecordValue) → handed ≡ pushed → handed ≡ take (length handed) pushed
begins_with handed pushed is = subst (λ (l : List RecordValue). handed ≡ take (length handed) l) is (sym (take_all (length handed) handed (omega arith)))

-- ---- pieces

-- where an image is under way, the copying has come to the place
come_to : (image : Option NewImage) (i : NewImage) (P : Type 0) → image ≡ Some i → (image ≡ None) ⊎ P → P
come_to image i P there due = ⊎_elim (λ none. absurd cc) (λ come. come) due

module _ {D A : Type 0} {marks : ℕ → ℕ → Type 0} (past_of : D → DevicePast) (o : Opened) (f : FlushValue D A) (is : IsFlusher past_of marks o f)
    (l : LockedValue) (all : l.pushed ++ l.core.outbox ≡ f.handed) (last : (g : GeometryValue) → l.core.last ≡ end_of (lock.run_of g o l))
    (store : (g : GeometryValue) → g.pages ≡ o.pages → g.entries ≡ o.places → IsOfGeometry l.core g) (number : ℕ) (told : number ≡ l.core.last) where
  abbrev g : GeometryValue
  g = (halves_of f.writer).geometry

  of_geometry : IsOfGeometry l.core g
  of_geometry = store g is.pages is.places

  same_run : lock.run_of g o l ≡ run_of o f
  same_run = ap (λ (rs : List RecordValue). record (run_of o f) { records = rs }) all

  pub number_is : number ≡ last_handed o f
  number_is = told ∙ last g ∙ ap end_of same_run

  -- all at once
  pub whole_chunk : {A : Type 0} (piece : Piece A) → IsAllOf l.core (cells_at (lock.run_of g o l) number) piece → IsChunk (run_of o f) f.writer number piece
  whole_chunk (Whole copied) of =
      let same : cells_of copied ≡ cells_at (run_of o f) number = of.0 ∙ ap (λ (r : Run). cells_at r number) same_run in
      record {
        late = omega (arith, number_is, is.writer.reached);
        made = omega (arith, number_is);
        small = omega (arith, number_is, is.writer.small);
        cells-are = same;
        fits = subst (FitsImage g) (sym of.0) (of.1 g of_geometry);
      }
  whole_chunk (Start life lists) of = absurd of
  whole_chunk (Page page rows) of = absurd of
  whole_chunk (Entries entries) of = absurd of

  -- piece by piece
  module _ (sound : has_failed f.writer ≡ false) (next : TakesNext o f) where
    abbrev cells : Cells
    cells = cells_at (run_of o f) (last_handed o f)

    piece_then : {A : Type 0} (place : CopyPlace) (piece : Piece A) → IsPieceDue place f.writer → IsPieceOf l.core cells place piece
        → IsChunk (run_of o f) f.writer (last_handed o f) piece
    piece_then at.Start (Start life lists) due of = record {
      late = is.writer.reached;
      made = omega arith;
      small = is.writer.small;
      life-is = of.life-is;
      lists-are = of.lists-are;
      inside = subst (λ n. AreInside n cells) of_geometry.pages of.inside;
      fits = of.fits g of_geometry;
    }
    piece_then (at.Page page) (Page copied rows) due of = λ image there_is.
        subst (λ p. IsPageChunk (run_of o f) image (last_handed o f) p rows) (sym of.0)
        (next.page page rows sound (come_to (image_of f.writer) image (next_place (copying_of f.writer) ≡ Some (at.Page page)) there_is due)
        (record { rows-are = of.1.rows-are; slots = of.1.slots }) image there_is)
    piece_then (at.Entries above) (Entries entries) due of = λ image there_is.
        next.entries above entries.items sound (come_to (image_of f.writer) image (next_place (copying_of f.writer) ≡ Some (at.Entries above)) there_is due)
        (record {
          more = of.more;
          listed = of.listed;
          most = of.most;
          full = of.full;
          rest = of.rest;
          inside = λ i e found.
              subst (λ n. e.0.rid.page < n) of_geometry.pages (of.inside i e found);
        }) image there_is
    piece_then at.Start (Whole copied) due of = absurd of
    piece_then at.Start (Page page rows) due of = absurd of
    piece_then at.Start (Entries entries) due of = absurd of
    piece_then (at.Page page) (Whole copied) due of = absurd of
    piece_then (at.Page page) (Start life lists) due of = absurd of
    piece_then (at.Page page) (Entries entries) due of = absurd of
    piece_then (at.Entries above) (Whole copied) due of = absurd of
    piece_then (at.Entries above) (Start life lists) due of = absurd of
    piece_then (at.Entries above) (Page page rows) due of = absurd of

    pub piece_chunk : {A : Type 0} (place : CopyPlace) (piece : Piece A) → IsPieceDue place f.writer
        → IsPieceOf l.core (cells_at (lock.run_of g o l) number) place piece → IsChunk (run_of o f) f.writer number piece
    piece_chunk {A} place piece due of =
        let now : IsPieceOf l.core cells place piece = subst (λ n. IsPieceOf l.core (cells_at (run_of o f) n) place piece) number_is
        (subst (λ (r : Run). IsPieceOf l.core (cells_at r number) place piece) same_run of) in
        subst (λ n. IsChunk (run_of o f) f.writer n piece) (sym number_is) (piece_then place piece due now)

-- the piece that was due still is, as records were popped and handed in
pub due_still : {D A : Type 0} (place : CopyPlace) (old new : FlushValue D A) → TakesIn old new → IsPieceDue place old.writer → IsPieceDue place new.writer
due_still at.Start old new takes due = tt
due_still (at.Page page) old new takes due = subst (λ (c : Copying). (image_of new.writer ≡ None) ⊎ (next_place c ≡ Some (at.Page page))) (sym takes.copying)
    (subst (λ (i : Option NewImage). (i ≡ None) ⊎ (next_place (copying_of old.writer) ≡ Some (at.Page page))) (sym takes.got.image) due)
due_still (at.Entries above) old new takes due =
    subst (λ (c : Copying). (image_of new.writer ≡ None) ⊎ (next_place c ≡ Some (at.Entries above))) (sym takes.copying)
    (subst (λ (i : Option NewImage). (i ≡ None) ⊎ (next_place (copying_of old.writer) ≡ Some (at.Entries above))) (sym takes.got.image) due)
