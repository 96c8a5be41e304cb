-- Which transactions the log of a core has a list of.
use Rattle.std.specs.FinMap.{get}
use Rattle.std.specs.Prelude.{◌≡◌, ◌≢◌, ℕ, Some, None}
use Rattle.record_values.specs.Values.{Place}
use Rattle.model.specs.Cells.{Cells}
use Rattle.core_model.specs.States.{State}

-- The log has a list of each transaction that holds a row, and of no other: the first record of a transaction is of a
-- row that it holds from then on.
pub record HasLists (s : State) (cells : Cells) : Type 0 where
  pub listed : (t : ℕ) (r : Place) → s.holder r ≡ Some t → get cells.pending t ≢ None
  pub holds : (t : ℕ) → get cells.pending t ≢ None → (r : Place) × (s.holder r ≡ Some t)
