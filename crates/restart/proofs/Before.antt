-- What is said of a piece before the records are handed over holds behind it too.
use Rattle.std.proofs.Common.{◌≡◌, ℕ, List, Option, sym, subst}
use Rattle.record_values.specs.GeometryValue.{GeometryValue}
use Rattle.records.specs.RecordValue.{RecordValue}
use Rattle.model.specs.Cells.{Cells}
use Rattle.core_copies.specs.Pieces.{IsPieceOf}
use Rattle.core_copies.specs.Shown.{IsCellsOf, IsOfGeometry}
use Rattle.flip_image.specs.Layout.{HalvesValue}
use Rattle.gate_log.specs.Area.{Log}
use Rattle.store_image_model.specs.declared.chunk.CopyPlace.{CopyPlace}
use Rattle.store_image_model.specs.declared.chunk.CopyPlace.TheVariants as at
use Rattle.store_image_model.specs.declared.chunk.Piece.{Piece}
use Rattle.store_image_model.specs.declared.chunk.Piece.TheVariants.{Entries, Page, Start, Whole}
use Rattle.core_parts.specs.View.{CoreValue}
use Rattle.store_writer.specs.Writer.{HasPiece, MustStartAgain}
use Rattle.store_writer.specs.declared.image.NewImage.{NewImage}
use Rattle.store_writer.specs.declared.writer.Writer.{Writer}
use Rattle.restart.specs.Copies.{IsPieceNow}

-- ---- a core, whatever waits in its outbox

module _ (v : CoreValue) (kept : List RecordValue) where
  abbrev w : CoreValue
  w = record v { outbox = kept }

  cells_then : (cells : Cells) → IsCellsOf v cells → IsCellsOf w cells
  cells_then cells of = record { rows = of.rows; entries = of.entries; pending = of.pending; life = of.life }

  of_then : (g : GeometryValue) → IsOfGeometry v g → IsOfGeometry w g
  of_then g of = record { pages = of.pages; entries = of.entries }

  module _ {A : Type 0} where
    is_before : (cells : Cells) (place : CopyPlace) (piece : Piece A) → IsPieceOf w cells place piece → IsPieceOf v cells place piece
    is_before cells at.Start (Start life lists) of = record {
      life-is = of.life-is;
      lists-are = of.lists-are;
      inside = of.inside;
      fits = λ g is.
          of.fits g (of_then g is);
    }
    is_before cells (at.Page page) (Page copied rows) of = of
    is_before cells (at.Entries above) (Entries entries) of =
        record { more = of.more; listed = of.listed; most = of.most; full = of.full; rest = of.rest; inside = of.inside }
    is_before cells at.Start (Whole copied) of = absurd of
    is_before cells at.Start (Page page rows) of = absurd of
    is_before cells at.Start (Entries entries) of = absurd of
    is_before cells (at.Page page) (Whole copied) of = absurd of
    is_before cells (at.Page page) (Start life lists) of = absurd of
    is_before cells (at.Page page) (Entries entries) of = absurd of
    is_before cells (at.Entries above) (Whole copied) of = absurd of
    is_before cells (at.Entries above) (Start life lists) of = absurd of
    is_before cells (at.Entries above) (Page page rows) of = absurd of

    pub piece_before : (place : CopyPlace) (piece : Piece A) → IsPieceNow (record v { outbox = kept }) place piece → IsPieceNow v place piece
    piece_before place piece is cells of = is_before cells place piece (is cells (cells_then cells of))

-- ---- a writer, whatever waits in it

module _ {A D M : Type 0} where
  -- whether a piece must be refused is seen of the image, the log and the halves alone
  pub must_as : (piece : Piece A) (old new : Writer D M) → new.image ≡ old.image → new.log ≡ old.log → new.halves ≡ old.halves → MustStartAgain piece old
      → MustStartAgain piece new
  must_as piece old new image log halves must =
      from piece
      (subst (λ (i : Option NewImage). MustStartAgain piece (record old { image = i; log = new.log; halves = new.halves })) (sym image)
      (subst (λ (l : Log). MustStartAgain piece (record old { log = l; halves = new.halves })) (sym log)
      (subst (λ (h : HalvesValue). MustStartAgain piece (record old { halves = h })) (sym halves) must)))
    where
      from : (piece : Piece A) → MustStartAgain piece (record old { image = new.image; log = new.log; halves = new.halves }) → MustStartAgain piece new
      from (Whole cells) is = is
      from (Start life lists) is = is
      from (Page page rows) is = is
      from (Entries entries) is = is

  -- and what a piece makes of an image, of the image
  pub has_as : (number : ℕ) (piece : Piece A) (old new : Writer D M) (image : NewImage) → old.image ≡ new.image → HasPiece number piece old image
      → HasPiece number piece new image
  has_as number piece old new image same has = from piece (subst (λ (i : Option NewImage). HasPiece number piece (record old { image = i }) image) same has)
    where
      from : (piece : Piece A) → HasPiece number piece (record old { image = new.image }) image → HasPiece number piece new image
      from (Whole cells) is = is
      from (Start life lists) is = is
      from (Page page rows) is = is
      from (Entries entries) is = is
