-- A core over what is given.
use Rattle.record_values.specs.GeometryValue.{GeometryValue}
use Rattle.model.specs.Given.{Given}
use Rattle.model.specs.Table.{Table}
use Rattle.record_values.specs.Entries.{Index}
use Rattle.store_reader.specs.Restored.{given_in}
use Rattle.store_reader.specs.declared.restored.Restored.{Restored}
use Rattle.core_model.specs.Histories.{Opened}
use Rattle.nsf_core.specs.Loading.{life_loaded}
use Rattle.core_parts.specs.Moves.{fresh}
use Rattle.core_parts.specs.View.{CoreValue}

-- the core with these rows
abbrev pub with_rows : CoreValue → Table → CoreValue
with_rows v rows = record v { heap = record v.heap { rows = rows } }

-- the core with these entries
abbrev pub with_entries : CoreValue → Index → CoreValue
with_entries v entries = record v { index = record v.index { entries = entries } }

-- a core of this geometry with just what is given, and no transaction
abbrev pub holding : GeometryValue → Given → CoreValue
holding geometry given = life_loaded (with_entries (with_rows (fresh geometry given.last) given.table) given.entries)
    given.life

-- what the abstract core begins with
abbrev pub store_of : {A : Type 0} → Restored A → Opened
store_of found = record { given = given_in found; pages = found.geometry.pages; places = found.geometry.entries }
