-- A page of an image that its half has as it is.
use Rattle.std.proofs.Common.{[], ◌≡◌, false, ℕ, refl, sym, ap, subst, ◌∙◌, arith}
use Rattle.model.specs.Cells.{Cells}
use Rattle.model.specs.Table.{Table}
use Rattle.core_model.specs.States.{State}
use Rattle.core_model.specs.Events.{Standing}
use Rattle.store_image_model.specs.Partly.{ArePageRows}
use Rattle.store_image_model.specs.Run.{Run, cells_at, end_of}
use Rattle.store_image_model.specs.declared.chunk.CopyPlace.TheVariants as at
use Rattle.store_image_model.specs.declared.chunk.Piece.TheVariants.{Page}
use Rattle.sector_device.specs.DevicePast.{DevicePast}
use Rattle.store_writer.specs.Writer.{IsPageChunk}
use Rattle.store_writer.specs.declared.image.NewImage.{NewImage}
use Rattle.restart.specs.declared.parts.EngineParts.{EngineParts}
use Rattle.restart.specs.Copies.{IsPieceNow}
use Rattle.restart.specs.Parts.{core_of, has_failed, unhanded}
use Rattle.restart.specs.Store.{StandsAt}
use Rattle.restart.proofs.Copied.{CopyLaws, all_handed, cells_now}

module _ {D M : Type 0} (past_of : D → DevicePast) (run : Run) (handed : ℕ) (s : State) (k : Standing) (engine : EngineParts D M)
    (is : StandsAt past_of run handed s k engine) (all : unhanded engine ≡ []) where
  -- the writer has every record
  to_last : handed ≡ end_of run
  to_last = omega (arith, is.writer.made, all_handed past_of run handed s k engine is all)

  pub last_handed : handed ≡ (core_of engine).last
  last_handed = omega (arith, to_last, is.made, is.shown.shown.made)

  -- the page is the core's
  pub page_now : (laws : CopyLaws past_of engine) (sound : has_failed engine ≡ false) (page : ℕ) (rows : Table) (image : NewImage)
      → IsPageChunk run image handed page rows → IsPieceNow {M = M} (core_of engine) (at.Page page) (Page page rows)
  page_now laws sound page rows image chunk = λ cells of. (
    refl,
    record {
      rows-are =
          let same : cells_at run handed ≡ cells =
          ap (cells_at run) to_last
          ∙ sym (laws.one (core_of engine) cells (cells_at run (end_of run)) of
          (cells_now past_of run handed s k engine is sound laws.txns laws.shown laws.one laws.page laws.entries)) in
          subst (λ (x : Cells). ArePageRows x page rows) same chunk.rows-are;
      slots = chunk.slots;
    },
  )
