-- The builder's attempts lie is_above the pair that was checkpointed last, also where that was before the core was opened.
use Rattle.std.proofs.Common.{Bool, ℕ, List, None, Option, Some, ap, refl, subst, sym, true, ◌∙◌, ◌≡◌, ◌≢◌}
use Rattle.records.specs.ChangeValue.{ChangeValue}
use Rattle.record_values.specs.declared.pair.Pair.{Pair}
use Rattle.model.specs.declared.life.Life.TheVariants.{Absent, Building, Complete}
use Rattle.core_model.proofs.Orders.{above_trans}
use Rattle.core_model.specs.Changes.{Changes, Unchanged, new_pair, old_pair, ◌▹◌}
use Rattle.core_model.specs.Histories.{Opened, highest_of, opened}
use Rattle.core_model.specs.Invariants.{Invariant, IsOneBuild, Runs, no_step, one_step}
use Rattle.core_model.specs.States.{Active, Made, NewMarked, OldMarked, OldSet, Phase, RowSet, State}
use Rattle.core_model.specs.Steps.{Attempt, Begin, Checkpoint, Clean, Commit, Create, Drop, End, Finish, IsEnabled, Keep, Next, Start, MachineStep, Take, Undo}
use Rattle.core_model.specs.Steps.{Wrap, after, carried_on, is_indexed, moved_by, started, txn_at, undone, undone_first, undone_row}
use Rattle.record_values.specs.Orders.{is_above}

-- in this run
pub above_checkpoint : (s : State) (p : Pair) → Invariant s → (highest : Option Pair) → s.life ≡ Building highest → IsEnabled s (Attempt p)
    → is_above highest p ≡ true
above_checkpoint s p i highest building can = i.coherent.behind highest building p can.rising

building_not_absent : (highest : Option Pair) → Building highest ≢ Absent
building_not_absent highest e = cc

complete_not_absent : Complete ≢ Absent
complete_not_absent e = cc

module _ (highest : Option Pair) where
  -- there is an index, and the builder comes only to pairs is_above this one
  record IsPast (s : State) : Type 0 where
    indexed : s.life ≢ Absent
    past : (p : Pair) → is_above s.bound p ≡ true → is_above highest p ≡ true

  module _ (s : State) (h : IsPast s) (t : ℕ) (x : Active) where
    started_past : (c : ChangeValue) (o : Option Pair) → IsPast (started s t x c o)
    started_past c (Some p) = record { indexed = h.indexed; past = h.past }
    started_past c None = record { indexed = h.indexed; past = h.past }

    carried_past : (cs : Changes) (phase : Phase) → IsPast (carried_on s t x cs phase)
    carried_past Unchanged phase = h
    carried_past (older ▹ c) OldMarked = record { indexed = h.indexed; past = h.past }
    carried_past (older ▹ c) RowSet = record { indexed = h.indexed; past = h.past }
    carried_past (older ▹ c) Made = h
    carried_past (older ▹ c) (NewMarked b) = h
    carried_past (older ▹ c) OldSet = h

    row_past : (c : ChangeValue) (older : Changes) → IsPast (undone_row s t x c older)
    row_past c older = record { indexed = h.indexed; past = h.past }

    first_past : (c : ChangeValue) (older : Changes) (b : Bool) (o : Option Pair) → IsPast (undone_first s t x c older b o)
    first_past c older b (Some p) = record { indexed = h.indexed; past = h.past }
    first_past c older b None = row_past c older

    undone_past : (cs : Changes) (phase : Phase) → IsPast (undone s t x cs phase)
    undone_past Unchanged phase = record { indexed = h.indexed; past = h.past }
    undone_past (older ▹ c) OldMarked = first_past c older _ (new_pair (is_indexed s.life) c)
    undone_past (older ▹ c) RowSet = first_past c older _ (new_pair (is_indexed s.life) c)
    undone_past (older ▹ c) Made = first_past c older _ (new_pair (is_indexed s.life) c)
    undone_past (older ▹ c) (NewMarked b) = row_past c older
    undone_past (older ▹ c) OldSet = record { indexed = h.indexed; past = h.past }

  moved_past : (s : State) (e : MachineStep) → e ≢ Drop → IsPast s → IsEnabled s e → IsPast (moved_by s e)
  moved_past s (Begin t) d h a = record { indexed = h.indexed; past = h.past }
  moved_past s (Start t c) d h a = started_past s h t (txn_at s t) c (old_pair (is_indexed s.life) c)
  moved_past s (Next t) d h a = carried_past s h t (txn_at s t) (txn_at s t).changes (txn_at s t).phase
  moved_past s (Undo t) d h a = undone_past s h t (txn_at s t) (txn_at s t).changes (txn_at s t).phase
  moved_past s (End t) d h a = record { indexed = h.indexed; past = h.past }
  moved_past s (Commit t) d h a = record { indexed = h.indexed; past = h.past }
  moved_past s Create d h a = absurd (h.indexed a.0)
  moved_past s (Take n) d h a = record { indexed = h.indexed; past = h.past }
  moved_past s (Attempt p) d h a = record { indexed = h.indexed; past = λ q higher. h.past q (above_trans s.bound p q a.rising higher) }
  moved_past s (Checkpoint p) d h a = record { indexed = building_not_absent (Some p); past = h.past }
  moved_past s Finish d h a = record { indexed = complete_not_absent; past = h.past }
  moved_past s (Clean p) d h a = record { indexed = h.indexed; past = h.past }
  moved_past s (Keep p) d h a = record { indexed = h.indexed; past = h.past }
  moved_past s Wrap d h a = record { indexed = h.indexed; past = h.past }
  moved_past s Drop d h a = absurd (d refl)

  step_past : (s : State) (e : MachineStep) → e ≢ Drop → IsPast s → IsEnabled s e → IsPast (after s e)
  step_past s e d h a = let m : IsPast (moved_by s e) = moved_past s e d h a in record { indexed = m.indexed; past = m.past }

  run_past : (s s' : State) (es : List MachineStep) → Runs s es s' → IsOneBuild es → IsPast s → IsPast s'
  run_past s s' es no_step d h = h
  run_past s s' es (one_step e rest enabled r) d h = run_past (after s e) s' rest r d.1 (step_past s e d.0 h enabled)

-- after a restart, in the build that it found
pub above_opened : (o : Opened) (highest : Option Pair) → o.given.life ≡ Building highest → (steps : List MachineStep) (s : State) → Runs (opened o) steps s
    → IsOneBuild steps → (p : Pair) → IsEnabled s (Attempt p) → is_above highest p ≡ true
above_opened o highest building steps s run one p can =
    let first : IsPast highest (opened o) = record {
      indexed = λ e. building_not_absent highest (sym building ∙ e);
      past = λ q higher. subst (λ b. is_above b q ≡ true) (ap highest_of building) higher;
    } in
    (run_past highest (opened o) s steps run one first).past p can.rising
