-- The records that the abstract core makes of a change, and of its undo, are those of the change's steps.
use Rattle.std.proofs.Common.{Bool, List, None, Option, Some, ap, arith, false, length, refl, subst, sym, true, ℕ, ◌++◌, ◌-◌, ◌∙◌, ◌∷◌, ◌≡◌}
use Rattle.std.proofs.lemmas.Option.{slice_get_past}
use Rattle.std.specs.Prelude.{is_none, slice_get}
use Rattle.records.specs.ChangeValue.{ChangeValue}
use Rattle.record_values.specs.declared.pair.Mark.TheVariants.{Live, Marked}
use Rattle.record_values.specs.declared.pair.Pair.{Pair}
use Rattle.records.specs.declared.record.Part.TheVariants.{NewEntry, OldEntry, Slot}
use Rattle.records.specs.declared.record.TxnAction.TheVariants as action
use Rattle.model.specs.Pairs.{is_indexed}
use Rattle.core_steps.specs.Steps.{entry_step, forward_steps, sets_new, sets_old, some_step, undo_steps}
use Rattle.core_steps.specs.declared.step.Step.{Step}
use Rattle.core_model.specs.Changes.{Changes, new_pair, old_pair, ◌▹◌}
use Rattle.core_model.specs.Invariants.{HasShape, IsShaped, IsWellFormed}
use Rattle.core_model.specs.Records.{action_of, begun_action, first_action, forward, is_last, next_action, undo, undo_action}
use Rattle.core_model.specs.States.{Made, NewMarked, OldMarked, OldSet, Phase, RowSet, State}
use Rattle.core_model.specs.Steps.{IsActive, Next, Start, Undo, txn_at}
use Rattle.nsf_core.specs.Steps.{forward_made, forward_record, said_by, undo_made, undo_record}
use Rattle.core_parts.proofs.Pairs.{new_moves, old_moves}

-- ---- the steps of a change that moves these pairs
module _ (c : ChangeValue) (old new : Option Pair) where
  abbrev forward_list : List Step
  forward_list = some_step (entry_step old Marked (action.Forward OldEntry c)) ++ sets_new c ∷ some_step (entry_step new Live (action.Forward NewEntry c))

  abbrev undo_list : List Step
  undo_list =
      some_step (entry_step new Marked (action.Undo NewEntry c false))
      ++ sets_old c (is_none (entry_step old Live (action.Undo OldEntry c true))) ∷ some_step (entry_step old Live (action.Undo OldEntry c true))

forward_is : (b : Bool) (c : ChangeValue) → forward_steps b c ≡ forward_list c (old_pair b c) (new_pair b c)
forward_is b c = λ i. forward_list c (old_moves b c i) (new_moves b c i)

undo_is : (b : Bool) (c : ChangeValue) → undo_steps b c ≡ undo_list c (old_pair b c) (new_pair b c)
undo_is b c = λ i. undo_list c (old_moves b c i) (new_moves b c i)

module _ (t : ℕ) (c : ChangeValue) where
  first_said : (old new : Option Pair) → Some (first_action t c old) ≡ said_by t (slice_get (forward_list c old new) 0)
  first_said None new = refl
  first_said (Some p) new = refl

  row_said : (old new : Option Pair) (p : Pair) → old ≡ Some p → Some (forward t Slot c) ≡ said_by t (slice_get (forward_list c old new) 1)
  row_said old new p e = ap (λ o. said_by t (slice_get (forward_list c o new) 1)) (sym e)

  entry_by : (old : Option Pair) (p : Pair) → Some (forward t NewEntry c)
      ≡ said_by t (slice_get (forward_list c old (Some p)) (length (forward_list c old (Some p)) - 1))
  entry_by None p = refl
  entry_by (Some q) p = refl

  entry_said : (old new : Option Pair) (p : Pair) → new ≡ Some p
      → Some (forward t NewEntry c) ≡ said_by t (slice_get (forward_list c old new) (length (forward_list c old new) - 1))
  entry_said old new p e = entry_by old p ∙ ap (λ n. said_by t (slice_get (forward_list c old n) (length (forward_list c old n) - 1))) (sym e)

  none_said : (steps : List Step) → None ≡ said_by t (slice_get steps (length steps))
  none_said steps = sym (ap (said_by t) (slice_get_past steps (length steps) (omega arith)))

  begun_said : (old new : Option Pair) → Some (begun_action t c old new) ≡ said_by t (slice_get (undo_list c old new) 0)
  begun_said None None = refl
  begun_said (Some q) None = refl
  begun_said old (Some p) = refl

  back_by : (old : Option Pair) (p : Pair) → Some (undo t Slot c (is_last old)) ≡ said_by t (slice_get (undo_list c old (Some p)) 1)
  back_by None p = refl
  back_by (Some q) p = refl

  back_said : (old new : Option Pair) (p : Pair) → new ≡ Some p → Some (undo t Slot c (is_last old)) ≡ said_by t (slice_get (undo_list c old new) 1)
  back_said old new p e = back_by old p ∙ ap (λ n. said_by t (slice_get (undo_list c old n) 1)) (sym e)

  live_by : (p : Pair) (new : Option Pair) → Some (undo t OldEntry c true)
      ≡ said_by t (slice_get (undo_list c (Some p) new) (length (undo_list c (Some p) new) - 1))
  live_by p None = refl
  live_by p (Some q) = refl

  live_said : (old new : Option Pair) (p : Pair) → old ≡ Some p
      → Some (undo t OldEntry c true) ≡ said_by t (slice_get (undo_list c old new) (length (undo_list c old new) - 1))
  live_said old new p e = live_by p new ∙ ap (λ o. said_by t (slice_get (undo_list c o new) (length (undo_list c o new) - 1))) (sym e)

-- ---- by how far the transaction is
module _ (b : Bool) (t : ℕ) (older : Changes) (c : ChangeValue) where
  next_said : (phase : Phase) → HasShape b c phase → next_action t (older ▹ c) phase ≡ forward_record b t c (forward_made b c phase)
  next_said OldMarked has = row_said t c (old_pair b c) (new_pair b c) has.it has.is ∙ ap (λ steps. said_by t (slice_get steps 1)) (sym (forward_is b c))
  next_said RowSet has = entry_said t c (old_pair b c) (new_pair b c) has.it has.is
      ∙ ap (λ steps. said_by t (slice_get steps (length steps - 1))) (sym (forward_is b c))
  next_said Made has = none_said t c (forward_steps b c)
  next_said (NewMarked applied) has = none_said t c (forward_steps b c)
  next_said OldSet has = none_said t c (forward_steps b c)

  begun_is : Some (begun_action t c (old_pair b c) (new_pair b c)) ≡ undo_record b t c 0
  begun_is = begun_said t c (old_pair b c) (new_pair b c) ∙ ap (λ steps. said_by t (slice_get steps 0)) (sym (undo_is b c))

  undo_said : (phase : Phase) → HasShape b c phase → undo_action b t (older ▹ c) phase ≡ undo_record b t c (undo_made b c phase)
  undo_said OldMarked has = begun_is
  undo_said RowSet has = begun_is
  undo_said Made has = begun_is
  undo_said (NewMarked applied) has = back_said t c (old_pair b c) (new_pair b c) has.it has.is
      ∙ ap (λ steps. said_by t (slice_get steps 1)) (sym (undo_is b c))
  undo_said OldSet has = live_said t c (old_pair b c) (new_pair b c) has.it has.is
      ∙ ap (λ steps. said_by t (slice_get steps (length steps - 1))) (sym (undo_is b c))

-- ---- in a state
pub start_record : (s : State) (t : ℕ) (c : ChangeValue) → action_of s (Start t c) ≡ forward_record (is_indexed s.life) t c 0
start_record s t c = first_said t c (old_pair (is_indexed s.life) c) (new_pair (is_indexed s.life) c)
    ∙ ap (λ steps. said_by t (slice_get steps 0)) (sym (forward_is (is_indexed s.life) c))

module _ (s : State) (t : ℕ) (fit : IsWellFormed s) (active : IsActive s t) (older : Changes) (c : ChangeValue)
    (newest : (txn_at s t).changes ≡ older ▹ c) where
  has : HasShape (is_indexed s.life) c (txn_at s t).phase
  has = subst (λ cs. IsShaped (is_indexed s.life) cs (txn_at s t).phase) newest (fit.txns t (txn_at s t) active).shaped

  pub next_record : action_of s (Next t) ≡ forward_record (is_indexed s.life) t c (forward_made (is_indexed s.life) c (txn_at s t).phase)
  next_record = ap (λ cs. next_action t cs (txn_at s t).phase) newest ∙ next_said (is_indexed s.life) t older c (txn_at s t).phase has

  pub undone_record : action_of s (Undo t) ≡ undo_record (is_indexed s.life) t c (undo_made (is_indexed s.life) c (txn_at s t).phase)
  undone_record = ap (λ cs. undo_action (is_indexed s.life) t cs (txn_at s t).phase) newest ∙ undo_said (is_indexed s.life) t older c (txn_at s t).phase has
