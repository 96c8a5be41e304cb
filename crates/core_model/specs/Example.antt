-- A run: a row is inserted while the index is built, its page is taken, and the insertion is undone.
use Rattle.std.specs.FinMap.{empty}
use Rattle.std.specs.Prelude.{List, [], ◌∷◌}
use Rattle.records.specs.ChangeValue.{ChangeValue}
use Rattle.record_values.specs.Values.{Place}
use Rattle.records.specs.declared.change.Rows.TheVariants.{Inserted}
use Rattle.record_values.specs.declared.pair.Pair.{Pair}
use Rattle.record_values.specs.declared.row.Row.{Row}
use Rattle.model.specs.declared.life.Life.TheVariants.{Absent}
use Rattle.core_model.specs.Histories.{Opened, opened}
use Rattle.core_model.specs.States.{State}
use Rattle.core_model.specs.Steps.{Attempt, Begin, Create, End, Finish, Start, MachineStep, Take, Undo, after}

-- The builder then leaves the marked entry as it is, and the index is complete without it.

-- the first place of the store
abbrev pub place : Place
place = record { page = 0; slot = 0 }

-- a row with the key `k` and no body
abbrev pub row : Row
row = record { key = 107 ∷ []; body = [] }

-- its pair
abbrev pub pair : Pair
pair = record { key = 107 ∷ []; rid = place }

-- its insertion
abbrev pub insertion : ChangeValue
insertion = record { position = 0; rid = place; rows = Inserted row }

-- no row, no index, one page, 64 entries
abbrev pub opening : Opened
opening = record { given = record { table = empty; entries = empty; life = Absent; last = 0 }; pages = 1; places = 64 }

-- the steps of the example, in order
abbrev pub steps : List MachineStep
steps = Create ∷ Begin 1 ∷ Start 1 insertion ∷ Take 0 ∷ Undo 1 ∷ Undo 1 ∷ Undo 1 ∷ End 1 ∷ Attempt pair ∷ Finish ∷ []

-- the state after these steps
abbrev pub all_after : State → List MachineStep → State
all_after s [] = s
all_after s (e ∷ es) = all_after (after s e) es

-- the state in the end
abbrev pub last : State
last = all_after (opened opening) steps
