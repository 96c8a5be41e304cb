-- The entries of one key.
use Rattle.std.specs.Prelude.{◌≡◌, ℕ, List, Option, Some, None}
use Rattle.std.specs.FinMap as map
use Rattle.std.specs.declared.cmp.Ordering.TheVariants.{Less}
use Rattle.record_values.specs.Values.{Place}
use Rattle.record_values.specs.Orders.{rid_cmp}
use Rattle.record_values.specs.declared.pair.Mark.{Mark}
use Rattle.record_values.specs.Entries.{Index}

-- the mark of the key at a place
abbrev pub mark_at : Index → List ℕ → Place → Option Mark
mark_at entries key rid = map.get entries (record { key = key; rid = rid })

-- r comes after the start, and every place does where there is none
abbrev pub IsAfter : Option Place → Place → Type 0
IsAfter None r = Unit {0}
IsAfter (Some start) r = rid_cmp start r ≡ Less

-- the first entry of the key after a start: no place between has one. There is none exactly where no later place has
-- one
abbrev pub IsNextOf : Index → List ℕ → Option Place → Option (Place × Mark) → Type 0
IsNextOf entries key start None = (r : Place) → IsAfter start r → mark_at entries key r ≡ None
IsNextOf entries key start (Some e) = IsAfter start e.0 × (mark_at entries key e.0 ≡ Some e.1)
    × ((r : Place) → IsAfter start r → rid_cmp r e.0 ≡ Less → mark_at entries key r ≡ None)
