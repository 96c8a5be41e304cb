-- What a core begins with.
use Rattle.std.specs.FinMap as map
use Rattle.std.specs.Prelude.{ℕ}
use Rattle.record_values.specs.GeometryValue.{GeometryValue}
use Rattle.model.specs.Given.{Given}
use Rattle.model.specs.declared.life.Life.TheVariants.{Absent}
use Rattle.core_model.specs.Histories.{Opened}

-- a store of this geometry that gives this
abbrev pub store_with : GeometryValue → Given → Opened
store_with g given = record { given = given; pages = g.pages; places = g.entries }

-- no row, no entry and no index, after so many records
abbrev pub empty_after : ℕ → Given
empty_after base = record { table = map.empty; entries = map.empty; life = Absent; last = base }
