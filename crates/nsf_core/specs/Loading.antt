-- What is loaded into a core before its first event.
use Rattle.std.specs.Prelude.{Option, Some, [], ◌<◌, ◌≡◌}
use Rattle.record_values.specs.Maps.{set_at}
use Rattle.record_values.specs.declared.pair.Mark.{Mark}
use Rattle.record_values.specs.declared.pair.Pair.{Pair}
use Rattle.model.specs.declared.life.Life.{Life}
use Rattle.model.specs.declared.life.Life.TheVariants.{Building}
use Rattle.sorted_scan.specs.Scans.{begun}
use Rattle.core_model.specs.Histories.{highest_of}
use Rattle.core_parts.specs.View.{CoreValue}

-- no transaction is active
abbrev pub IsQuiet : CoreValue → Type 0
IsQuiet v = v.txns.active ≡ []

-- a pair of the geometry
abbrev pub IsPairInside : CoreValue → Pair → Type 0
IsPairInside v p = p.rid.page < v.heap.pages

-- the pair checkpointed last, if there is one, is of the geometry
abbrev pub IsLifeInside : CoreValue → Life → Type 0
IsLifeInside v life = (p : Pair) → life ≡ Building (Some p) → IsPairInside v p

-- the core with this entry set, or none
abbrev pub entry_loaded : CoreValue → Pair → Option Mark → CoreValue
entry_loaded v p mark = record v { index = record v.index { entries = set_at v.index.entries p mark } }

-- with this life; a build begins its scan above the pair checkpointed last
abbrev pub life_loaded : CoreValue → Life → CoreValue
life_loaded v life = record v { life = life; scan = begun (highest_of life) v.heap.pages; tried = 0 }
