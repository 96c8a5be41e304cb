-- The records made since a store was opened, by their numbers, and the cells that they left.
use Rattle.std.specs.Prelude.{ℕ, ◌+◌, ◌-◌, List, length, take, drop}
use Rattle.records.specs.RecordValue.{RecordValue}
use Rattle.record_values.specs.GeometryValue.{GeometryValue}
use Rattle.model.specs.Cells.{Cells, cells_after, list_of}
use Rattle.model.specs.Following.{AreFollowing, ArePlaced}
use Rattle.model.specs.Images.{IsCopied}

-- A store of this geometry was opened: these were its cells, after the record `last`. These records were made since.
pub record Run : Type 0 where
  pub geometry : GeometryValue
  pub last : ℕ
  pub cells : Cells
  pub records : List RecordValue

-- the number of the last record made
abbrev pub end_of : Run → ℕ
end_of run = run.last + length run.records

-- the records up to number n
abbrev pub records_to : Run → ℕ → List RecordValue
records_to run n = take (n - run.last) run.records

-- those above number m
abbrev pub records_above : Run → ℕ → List RecordValue
records_above run m = drop (m - run.last) run.records

-- those above number m, up to n
abbrev pub records_between : Run → ℕ → ℕ → List RecordValue
records_between run m n = take (n - m) (records_above run m)

-- the cells after record n
abbrev pub cells_at : Run → ℕ → Cells
cells_at run n = cells_after run.cells (records_to run n)

-- each record can follow the one before
pub record IsRun (run : Run) : Type 0 where
  pub following : AreFollowing run.geometry.pages run.last run.cells run.records
  pub placed : (txn : ℕ) → ArePlaced run.geometry.pages 0 (list_of run.cells.pending txn)

-- the cells were copied piece by piece, from the record `base` on up to the record `to`
abbrev pub IsCopiedFrom : Run → (base to : ℕ) → Cells → Type 0
IsCopiedFrom run base to image = IsCopied (cells_at run base) (records_above run base) (to - base) image
