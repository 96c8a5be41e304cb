-- The steps of a change and of its undo, in order, each with what its record says.
use Rattle.std.specs.Prelude.{Bool, true, false, Option, Some, None, List, [], ◌∷◌, ◌++◌, is_none, option_map}
use Rattle.records.specs.ChangeValue.{ChangeValue}
use Rattle.records.specs.Spelling.{old_row, new_row}
use Rattle.record_values.specs.declared.pair.Pair.{Pair}
use Rattle.record_values.specs.declared.pair.Mark.{Mark}
use Rattle.record_values.specs.declared.pair.Mark.TheVariants.{Live, Marked}
use Rattle.records.specs.declared.record.Part.TheVariants as part
use Rattle.records.specs.declared.record.TxnAction.{TxnAction}
use Rattle.records.specs.declared.record.TxnAction.TheVariants.{Forward, Undo}
use Rattle.core_steps.specs.declared.step.Cell.TheVariants as cell
use Rattle.core_steps.specs.declared.step.Step.{Step}
use Rattle.core_steps.specs.Keys.{moved_pair}

-- this step, where there is one
abbrev pub some_step : Option Step → List Step
some_step None = []
some_step (Some step) = step ∷ []

-- the entry of the pair, where there is one, gets this mark
abbrev pub entry_step : Option Pair → Mark → TxnAction → Option Step
entry_step pair mark action = option_map (λ p. record { cell = cell.Entry p mark; action = action }) pair

-- ---- a change

-- the step that marks the old pair, where there is one
abbrev pub marks_old : Bool → ChangeValue → Option Step
marks_old indexed c = entry_step (moved_pair indexed c (old_row c.rows)) Marked (Forward part.OldEntry c)

-- the step that sets the new row
abbrev pub sets_new : ChangeValue → Step
sets_new c = record { cell = cell.Slot c.rid (new_row c.rows); action = Forward part.Slot c }

-- the step that puts the new pair, where there is one
abbrev pub puts_new : Bool → ChangeValue → Option Step
puts_new indexed c = entry_step (moved_pair indexed c (new_row c.rows)) Live (Forward part.NewEntry c)

-- a change marks the old entry, sets the new row, and puts the new entry
abbrev pub forward_steps : Bool → ChangeValue → List Step
forward_steps indexed c = some_step (marks_old indexed c) ++ sets_new c ∷ some_step (puts_new indexed c)

-- ---- its undo: `last` takes the change off its transaction's list

-- the step that marks the new pair, where there is one
abbrev pub marks_new : Bool → ChangeValue → Option Step
marks_new indexed c = entry_step (moved_pair indexed c (new_row c.rows)) Marked (Undo part.NewEntry c false)

-- the step that sets the old row again
abbrev pub sets_old : ChangeValue → Bool → Step
sets_old c last = record { cell = cell.Slot c.rid (old_row c.rows); action = Undo part.Slot c last }

-- the step that puts the old pair again, where there is one
abbrev pub puts_old : Bool → ChangeValue → Option Step
puts_old indexed c = entry_step (moved_pair indexed c (old_row c.rows)) Live (Undo part.OldEntry c true)

-- the undo marks the new entry, sets the old row, and puts the old entry
abbrev pub undo_steps : Bool → ChangeValue → List Step
undo_steps indexed c = some_step (marks_new indexed c) ++ sets_old c (is_none (puts_old indexed c))
    ∷ some_step (puts_old indexed c)
