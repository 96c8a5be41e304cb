-- An index that fits the rows.
use Rattle.std.specs.FinMap as map
use Rattle.std.specs.Prelude.{◌≡◌, None, Some}
use Rattle.record_values.specs.declared.pair.Mark.TheVariants.{Live}
use Rattle.record_values.specs.declared.pair.Pair.{Pair}
use Rattle.model.specs.Table.{IsPairOf, Table}
use Rattle.record_values.specs.Entries.{Index}
use Rattle.model.specs.declared.life.Life.{Life}
use Rattle.model.specs.declared.life.Life.TheVariants.{Absent}
use Rattle.core_model.specs.Histories.{IsCovered, highest_of}

-- Each visible entry is the pair of a row. As far as the index is built, the pair of each row is visible: up to the
-- pair that was checkpointed last, or everywhere once it is complete. Where there is no index, also since it was
-- dropped, no entry is left, visible or marked.
pub record IsIndexOf (rows : Table) (life : Life) (entries : Index) : Type 0 where
  pub sound : (p : Pair) → map.get entries p ≡ Some Live → IsPairOf rows p
  pub whole : (p : Pair) → IsCovered life (highest_of life) p → IsPairOf rows p → map.get entries p ≡ Some Live
  pub gone : life ≡ Absent → (p : Pair) → map.get entries p ≡ None
