-- The records of a change, and of its undo, one step after another.
use Rattle.std.specs.Prelude.{Bool, Option, length, option_map, slice_get, ℕ, ◌-◌}
use Rattle.records.specs.ChangeValue.{ChangeValue}
use Rattle.records.specs.declared.record.Action.{Action}
use Rattle.records.specs.declared.record.Action.TheVariants.{OfTxn}
use Rattle.core_steps.specs.Steps.{forward_steps, undo_steps}
use Rattle.core_steps.specs.declared.step.Step.{Step}
use Rattle.core_model.specs.States.{Made, NewMarked, OldMarked, OldSet, Phase, RowSet}

-- what the record of this step of a transaction says
abbrev pub said_by : ℕ → Option Step → Option Action
said_by t step = option_map (λ (made : Step). OfTxn t made.action) step

-- how many steps of its newest change a transaction has made that owes one
abbrev pub forward_made : Bool → ChangeValue → Phase → ℕ
forward_made indexed c OldMarked = 1
forward_made indexed c RowSet = length (forward_steps indexed c) - 1
forward_made indexed c Made = length (forward_steps indexed c)
forward_made indexed c (NewMarked applied) = length (forward_steps indexed c)
forward_made indexed c OldSet = length (forward_steps indexed c)

-- how many steps of its undo it has made
abbrev pub undo_made : Bool → ChangeValue → Phase → ℕ
undo_made indexed c OldMarked = 0
undo_made indexed c RowSet = 0
undo_made indexed c Made = 0
undo_made indexed c (NewMarked applied) = 1
undo_made indexed c OldSet = length (undo_steps indexed c) - 1

-- the record of the step of a change that comes after so many
abbrev pub forward_record : Bool → ℕ → ChangeValue → ℕ → Option Action
forward_record indexed t c made = said_by t (slice_get (forward_steps indexed c) made)

-- and of the step of its undo
abbrev pub undo_record : Bool → ℕ → ChangeValue → ℕ → Option Action
undo_record indexed t c made = said_by t (slice_get (undo_steps indexed c) made)
