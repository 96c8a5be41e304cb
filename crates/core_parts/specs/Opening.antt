-- What a core holds, as something that a core may begin with.
use Rattle.std.specs.FinMap.{get}
use Rattle.std.specs.Prelude.{Some, true, ◌≡◌, ◌≢◌}
use Rattle.record_values.specs.Values.{Place}
use Rattle.record_values.specs.declared.pair.Mark.{Mark}
use Rattle.record_values.specs.declared.pair.Mark.TheVariants.{Live, Marked}
use Rattle.record_values.specs.declared.pair.Pair.{Pair}
use Rattle.record_values.specs.declared.row.Row.{Row}
use Rattle.model.specs.Pairs.{is_indexed, pair_of}
use Rattle.model.specs.Table.{IsPairOf}
use Rattle.core_model.specs.Histories.{IsCovered, Opened, highest_of}
use Rattle.core_parts.specs.View.{CoreValue}

-- the rows, the entries and the index's life that a core holds, in a store of its size
abbrev pub opened_of : CoreValue → Opened
opened_of v = record {
  given = record { table = v.heap.rows; entries = v.index.entries; life = v.life; last = v.last };
  pages = v.heap.pages;
  places = v.index.capacity;
}

-- ---- one entry, and one row: no public clause cites what follows

-- an entry that may be there: there is an index, and where the entry is visible it is the pair of a row
pub record MayStand (v : CoreValue) (p : Pair) (mark : Mark) : Type 0 where
  pub indexed : is_indexed v.life ≡ true
  pub sound : mark ≡ Live → IsPairOf v.heap.rows p

-- the pair of a row is visible, as far as the index is built, and it is not marked
pub record IsShown (v : CoreValue) (p : Pair) : Type 0 where
  pub complete : IsCovered v.life (highest_of v.life) p → get v.index.entries p ≡ Some Live
  pub unmarked : get v.index.entries p ≢ Some Marked

-- where there is a row, its pair is shown
abbrev pub IsRowShown : CoreValue → Place → Type 0
IsRowShown v r = (row : Row) → get v.heap.rows r ≡ Some row → IsShown v (pair_of r row)

-- every entry may stand there
abbrev pub EachMayStand : CoreValue → Type 0
EachMayStand v = (p : Pair) (mark : Mark) → get v.index.entries p ≡ Some mark → MayStand v p mark

-- so it is of each place
abbrev pub EachIsShown : CoreValue → Type 0
EachIsShown v = (r : Place) → IsRowShown v r
