-- What was made since the opening, under the lock.
use Rattle.std.specs.Prelude.{◌≡◌, ◌++◌}
use Rattle.record_values.specs.GeometryValue.{GeometryValue}
use Rattle.model.specs.Cells.{Cells}
use Rattle.model.specs.Given.{opening_cells}
use Rattle.model.specs.Redo.{cells_of}
use Rattle.core_model.specs.Histories.{Opened}
use Rattle.store_image_model.specs.Run.{Run}
use Rattle.store_image_model.specs.declared.chunk.Piece.{Piece}
use Rattle.store_image_model.specs.declared.chunk.Piece.TheVariants.{Whole, Start, Page, Entries}
use Rattle.core_parts.specs.View.{CoreValue}
use Rattle.core_copies.specs.Shown.{FitsStoreOf}
use Rattle.locked_core.specs.Locked.{LockedValue}

-- the records made since the opening, those pushed and then those that wait, over what was opened, in a store of this
-- geometry
abbrev pub run_of : GeometryValue → Opened → LockedValue → Run
run_of g o l = record {
  geometry = g;
  last = o.given.last;
  cells = opening_cells o.given;
  records = l.pushed ++ l.core.outbox;
}

-- the piece is all of these cells, and an image of the core's store has room for them
abbrev pub IsAllOf : {A : Type 0} → CoreValue → Cells → Piece A → Type 0
IsAllOf v cells (Whole copied) = (cells_of copied ≡ cells) × FitsStoreOf v cells
IsAllOf v cells (Start life lists) = ⊥
IsAllOf v cells (Page page rows) = ⊥
IsAllOf v cells (Entries entries) = ⊥
