-- What an image is written of.
use Rattle.std.specs.Prelude.{◌≡◌, ℕ, ◌+◌, ◌<◌, ◌≤◌, List, length, Option, Some, None, slice_get}
use Rattle.std.specs.FinMap as finite
use Rattle.record_values.specs.Values.{Place}
use Rattle.record_values.specs.GeometryValue.{GeometryValue}
use Rattle.record_values.specs.declared.rid.TheConstants.{SLOTS_PER_PAGE}
use Rattle.record_values.specs.declared.txn.TheConstants.{TXNS_MAX}
use Rattle.records.specs.declared.change.TheConstants.{CHANGES_MAX}
use Rattle.record_values.specs.declared.row.Row.{Row}
use Rattle.model.specs.Cells.{Cells, list_of}
use Rattle.model.specs.Following.{ArePlaced}
use Rattle.model.specs.Inside.{AreInside}

-- behind the entry of this key, or in front where there is no key, comes this one, or none
abbrev pub IsNextBehind : {K X : Type 0} → List (K × X) → Option K → Option (K × X) → Type 0
IsNextBehind entries None next = next ≡ slice_get entries 0
IsNextBehind {K} {X} entries (Some key) next = (i : ℕ) (value : X) → slice_get entries i ≡ Some (key, value)
    → next ≡ slice_get entries (i + 1)

-- so many entries come before what is behind this key, which is that of the last of them; none come before where no key
-- is given
abbrev pub IsPassed : {K X : Type 0} → List (K × X) → ℕ → Option K → Type 0
IsPassed entries n None = n ≡ 0
IsPassed {K} {X} entries n (Some key) = (m : ℕ) × (value : X) × (n ≡ m + 1) × (slice_get entries m ≡ Some (key, value))

-- An image of a store of this geometry has room for these cells: all of them are of its pages, there are no more
-- entries and transactions than it has places for, and each list is numbered from 0 and no longer than it may be.
pub record FitsImage (g : GeometryValue) (cells : Cells) : Type 0 where
  pub inside : AreInside g.pages cells
  pub slots : (q : Place) (r : Row) → finite.get cells.rows q ≡ Some r → q.slot < SLOTS_PER_PAGE
  pub room : length (finite.entries cells.entries) ≤ g.entries
  pub txns : length (finite.entries cells.pending) ≤ TXNS_MAX
  pub changes : (txn : ℕ) → length (list_of cells.pending txn) ≤ CHANGES_MAX
  pub placed : (txn : ℕ) → ArePlaced g.pages 0 (list_of cells.pending txn)
