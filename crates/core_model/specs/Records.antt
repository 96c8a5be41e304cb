-- The record that a step makes, and the cells that a state has.
use Rattle.std.specs.FinMap.{get}
use Rattle.std.specs.Prelude.{Bool, List, None, Option, Some, false, true, ℕ, ◌≡◌}
use Rattle.records.specs.ChangeValue.{ChangeValue}
use Rattle.record_values.specs.declared.pair.Mark.{Mark}
use Rattle.record_values.specs.declared.pair.Pair.{Pair}
use Rattle.records.specs.declared.record.Action.{Action}
use Rattle.records.specs.declared.record.Action.TheVariants.{OfIndex, OfTxn}
use Rattle.records.specs.declared.record.IndexAction.{IndexAction}
use Rattle.records.specs.declared.record.IndexAction.TheVariants.{BuildCheckpoint, BuildDone, BuildPlace}
use Rattle.records.specs.declared.record.Part.{Part}
use Rattle.records.specs.declared.record.Part.TheVariants.{NewEntry, OldEntry, Slot}
use Rattle.records.specs.declared.record.TxnAction.{TxnAction}
use Rattle.model.specs.Cells.{Cells, set_by}
use Rattle.model.specs.Table.{applied}
use Rattle.core_model.specs.Changes.{Changes, Unchanged, as_list, new_pair, old_pair, ◌▹◌}
use Rattle.core_model.specs.States.{Active, Made, NewMarked, OldMarked, OldSet, Phase, RowSet, State}
use Rattle.core_model.specs.Steps.{Attempt, Begin, Checkpoint, Clean, Commit, Create, Drop, End, Finish, Keep, Next}
use Rattle.core_model.specs.Steps.{Start, MachineStep, Take, Undo, Wrap, is_indexed, txn_at}

-- The list that a log has of a transaction: its changes. One that has no change may have no list.
abbrev pub IsListOf : Option (List ChangeValue) → Option Active → Type 0
IsListOf None None = Unit {0}
IsListOf None (Some x) = x.changes ≡ Unchanged
IsListOf (Some list) None = ⊥
IsListOf (Some list) (Some x) = list ≡ as_list x.changes

-- these are the cells of the state
pub record HasCells (s : State) (cells : Cells) : Type 0 where
  pub rows : cells.rows ≡ s.rows
  pub entries : cells.entries ≡ s.entries
  pub pending : (t : ℕ) → IsListOf (get cells.pending t) (s.txns t)
  pub life : cells.life ≡ s.life

-- the cells after a record of this action, if there is one
abbrev pub set_by_any : Cells → Option Action → Cells
set_by_any cells None = cells
set_by_any cells (Some action) = set_by cells action

-- a step of a change on this part
abbrev pub forward : ℕ → Part → ChangeValue → Action
forward t part c = OfTxn t (TxnAction.Forward part c)

-- a step on this part that takes a change back
abbrev pub undo : ℕ → Part → ChangeValue → Bool → Action
undo t part c last = OfTxn t (TxnAction.Undo part c last)

-- the record of a change's first step: it marks the old pair, or with none sets the row
abbrev pub first_action : ℕ → ChangeValue → Option Pair → Action
first_action t c None = forward t Slot c
first_action t c (Some p) = forward t OldEntry c

-- the record of the step that is owed
abbrev pub next_action : ℕ → Changes → Phase → Option Action
next_action t (older ▹ c) OldMarked = Some (forward t Slot c)
next_action t (older ▹ c) RowSet = Some (forward t NewEntry c)
next_action t _ _ = None

-- whether an undo that sets the row is at its end: no old pair is owed
abbrev pub is_last : Option Pair → Bool
is_last None = true
is_last (Some p) = false

-- the record of the first step of an undo
abbrev pub begun_action : ℕ → ChangeValue → (old new : Option Pair) → Action
begun_action t c old None = undo t Slot c (is_last old)
begun_action t c old (Some p) = undo t NewEntry c false

-- the record of the next step of an undo, by the phase of the newest change
abbrev pub undo_action : Bool → ℕ → Changes → Phase → Option Action
undo_action indexed t Unchanged phase = None
undo_action indexed t (older ▹ c) OldMarked = Some (begun_action t c (old_pair indexed c) (new_pair indexed c))
undo_action indexed t (older ▹ c) RowSet = Some (begun_action t c (old_pair indexed c) (new_pair indexed c))
undo_action indexed t (older ▹ c) Made = Some (begun_action t c (old_pair indexed c) (new_pair indexed c))
undo_action indexed t (older ▹ c) (NewMarked applied) = Some (undo t Slot c (is_last (old_pair indexed c)))
undo_action indexed t (older ▹ c) OldSet = Some (undo t OldEntry c true)

-- the record of an attempt: one where the pair had no entry
abbrev pub place_action : Pair → Option Mark → Option Action
place_action p None = Some (OfIndex (BuildPlace p))
place_action p (Some mark) = None

-- what a step puts into the log
abbrev pub action_of : State → MachineStep → Option Action
action_of s (Begin t) = None
action_of s (Start t c) = Some (first_action t c (old_pair (is_indexed s.life) c))
action_of s (Next t) = next_action t (txn_at s t).changes (txn_at s t).phase
action_of s (Undo t) = undo_action (is_indexed s.life) t (txn_at s t).changes (txn_at s t).phase
action_of s (End t) = Some (OfTxn t TxnAction.End)
action_of s (Commit t) = Some (OfTxn t TxnAction.Commit)
action_of s Create = Some (OfIndex IndexAction.Create)
action_of s (Take n) = None
action_of s (Attempt p) = place_action p (get s.entries p)
action_of s (Checkpoint p) = Some (OfIndex (BuildCheckpoint p))
action_of s Finish = Some (OfIndex BuildDone)
action_of s (Clean p) = Some (OfIndex (IndexAction.Clean p))
action_of s (Keep p) = None
action_of s Wrap = None
action_of s Drop = Some (OfIndex IndexAction.Drop)
