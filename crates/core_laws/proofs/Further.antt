-- A further step of a change is one of those that were owed.
use Rattle.std.proofs.Common.{None, Option, Some, ap, arith, inl, inr, refl, subst, sym, ℕ, ◌<◌, ◌∙◌, ◌≡◌, ◌≤◌, ◌⊎◌}
use Rattle.std.specs.Prelude.{unwrap_or}
use Rattle.record_values.specs.declared.error.Error.{Error}
use Rattle.record_values.specs.declared.pair.Pair.{Pair}
use Rattle.txn_table.specs.Table.{TxnState, rolls}
use Rattle.txn_table.specs.declared.progress.Progress.{Progress}
use Rattle.txn_table.specs.declared.progress.Progress.TheVariants.{OwesEntry, OwesRow, Ready, Rolling, UndoesEntry, UndoesRow}
use Rattle.core_model.proofs.Laws.{txn_here}
use Rattle.core_model.specs.Changes.{Changes, Unchanged, new_pair, ◌▹◌}
use Rattle.core_model.specs.Events.{Event, Refused, Reply, Skipped, Standing, Stepped, standing_after}
use Rattle.core_model.specs.Invariants.{IsShaped}
use Rattle.core_model.specs.Replies.{IsAllowed, Owes, accepted, after_any, no_memory, refused, refused_last, skipped, unknown}
use Rattle.core_model.specs.States.{Active, Made, NewMarked, OldMarked, OldSet, Phase, RowSet, State}
use Rattle.core_model.specs.Steps.{MachineStep, Next, after, carried_on, is_indexed, new_txn, row_made, txn_at, with_phase, with_txn}
use Rattle.core_parts.specs.Moves.{txn_shown}
use Rattle.core_parts.specs.View.{Answers, AreOne, CoreValue, IsProgressOf, IsSafe, Serves, Shows}
use Rattle.core_laws.specs.Further.{steps_in, steps_owed}

-- the same of the machine's transaction
abbrev left_in : Phase → ℕ
left_in OldMarked = 2
left_in RowSet = 1
left_in Made = 0
left_in (NewMarked applied) = 0
left_in OldSet = 0

abbrev left_of : Option Active → ℕ
left_of None = 0
left_of (Some a) = left_in a.phase

progress_left : (p : Progress) (phase : Phase) → IsProgressOf p phase → steps_in p ≡ left_in phase
progress_left Ready phase e = sym (ap left_in e)
progress_left OwesRow phase e = sym (ap left_in e)
progress_left OwesEntry phase e = sym (ap left_in e)
progress_left Rolling phase e = sym (ap left_in e)
progress_left UndoesRow phase e = sym (ap left_in e.1)
progress_left UndoesEntry phase e = sym (ap left_in e)

one_left : (o : Option TxnState) (a : Option Active) → AreOne o a → steps_owed o ≡ left_of a
one_left None a e = sym (ap left_of e)
one_left (Some x) a is = progress_left x.progress is.0.phase is.2.phase ∙ sym (ap left_of is.1)

shown_left : (v : CoreValue) (s : State) (k : Standing) → Shows v s k → (t : ℕ) → steps_owed (txn_shown v t) ≡ left_of (s.txns t)
shown_left v s k h t = one_left (txn_shown v t) (s.txns t) (h.txns t)

-- ---- what was answered

refused_stepped : (e : Error) → Refused e ≡ Stepped → ⊥
refused_stepped e is = absurd cc

skipped_stepped : Skipped ≡ Stepped → ⊥
skipped_stepped is = absurd cc

refused_skipped : (e : Error) → Refused e ≡ Skipped → ⊥
refused_skipped e is = absurd cc

stepped_skipped : Stepped ≡ Skipped → ⊥
stepped_skipped is = absurd cc

module _ (s : State) (k : Standing) (t : ℕ) where
  made_so : (r : Reply) (step : Option MachineStep) → IsAllowed s k (Event.Step t) r step → r ≡ Stepped
      → (s.txns t ≡ None → ⊥) × Owes (txn_at s t) × (step ≡ Some (Next t))
  made_so r step (unknown a) e = absurd (refused_stepped _ e)
  made_so r step (skipped x y) e = absurd (skipped_stepped e)
  made_so r step (refused x y er f) e = absurd (refused_stepped er e)
  made_so r step (refused_last x y f r0 t0 d er g) e = absurd (refused_stepped er e)
  made_so r step (no_memory x y f r0 t0 d g w) e = absurd (refused_stepped _ e)
  made_so r step (accepted x y f r0 t0 d g) e = (x, y, d.1)

  skipped_so : (r : Reply) (step : Option MachineStep) → IsAllowed s k (Event.Step t) r step → r ≡ Skipped → Owes (txn_at s t) → ⊥
  skipped_so r step (unknown a) e = absurd (refused_skipped _ e)
  skipped_so r step (skipped x y) e = y
  skipped_so r step (refused x y er f) e = absurd (refused_skipped er e)
  skipped_so r step (refused_last x y f r0 t0 d er g) e = absurd (refused_skipped er e)
  skipped_so r step (no_memory x y f r0 t0 d g w) e = absurd (refused_skipped _ e)
  skipped_so r step (accepted x y f r0 t0 d g) e = absurd (stepped_skipped (sym d.0 ∙ e))

-- ---- the step

none_of_two : 0 < 2
none_of_two = omega arith

one_of_two : 1 < 2
one_of_two = omega arith

none_of_one : 0 < 1
none_of_one = omega arith

row_left : (p : Option Pair) → left_in (row_made p) < 2
row_left None = none_of_two
row_left (Some p) = one_of_two

old_made : OldMarked ≡ Made → ⊥
old_made e = absurd cc

row_apart : RowSet ≡ Made → ⊥
row_apart e = absurd cc

abbrev IsOwing : Phase → Type 0
IsOwing phase = (phase ≡ OldMarked) ⊎ (phase ≡ RowSet)

made_owes : (phase : Phase) → phase ≡ Made → IsOwing phase → ⊥
made_owes phase made (inl e) = old_made (sym e ∙ made)
made_owes phase made (inr e) = row_apart (sym e ∙ made)

-- a phase with this count of nothing owes nothing
none_owes : (phase : Phase) → left_in phase ≡ 0 → IsOwing phase → ⊥
none_owes phase none (inl e) = let is : 2 ≡ 0 = sym (ap left_in e) ∙ none in omega (arith, is)
none_owes phase none (inr e) = let is : 1 ≡ 0 = sym (ap left_in e) ∙ none in omega (arith, is)

module _ (s : State) (t : ℕ) where
  here : (a : Active) (n : ℕ) → left_in a.phase < n → left_of (with_txn s t a t) < n
  here a n less = subst (λ o. left_of o < n) (sym (txn_here s t a)) less

  carried : (x : Active) (cs : Changes) (phase : Phase) → IsShaped (is_indexed s.life) cs phase → IsOwing phase
      → left_of ((carried_on s t x cs phase).txns t) < left_in phase
  carried x Unchanged phase shaped owes = absurd (made_owes phase shaped owes)
  carried x (older ▹ c) OldMarked shaped owes = here (with_phase x (row_made (new_pair (is_indexed s.life) c))) 2 (row_left (new_pair (is_indexed s.life) c))
  carried x (older ▹ c) RowSet shaped owes = here (with_phase x Made) 1 none_of_one
  carried x (older ▹ c) Made shaped owes = absurd (made_owes Made refl owes)
  carried x (older ▹ c) (NewMarked applied) shaped owes = absurd (none_owes (NewMarked applied) refl owes)
  carried x (older ▹ c) OldSet shaped owes = absurd (none_owes OldSet refl owes)

  module _ (fit : (u : ℕ) (x : Active) → s.txns u ≡ Some x → IsShaped (is_indexed s.life) x.changes x.phase)
      (known : s.txns t ≡ None → ⊥) (owes : Owes (txn_at s t)) where
    by : (o : Option Active) → s.txns t ≡ o → left_of ((after s (Next t)).txns t) < left_of o
    by None e = absurd (known e)
    by (Some a) e =
        let at : txn_at s t ≡ a = ap (λ o. unwrap_or o new_txn) e in
        subst (λ (z : Active). left_of ((carried_on s t z z.changes z.phase).txns t) < left_in a.phase) (sym at)
        (carried a a.changes a.phase (fit t a e) (subst (λ (z : Active). IsOwing z.phase) at owes.0))

    pub fewer_left : left_of ((after s (Next t)).txns t) < left_of (s.txns t)
    fewer_left = by (s.txns t) refl

-- ---- of a core

module _ (old new : CoreValue) (t : ℕ) (safe : IsSafe old) where
  abbrev s : State
  s = safe.state

  abbrev k : Standing
  k = safe.standing

  was : steps_owed (txn_shown old t) ≡ left_of (s.txns t)
  was = shown_left old s k safe.is.shown t

  pub fewer_owed : Serves old (Event.Step t) Stepped new → steps_owed (txn_shown new t) < steps_owed (txn_shown old t)
  fewer_owed serves =
      let a : Answers old s k (Event.Step t) Stepped new = serves s k safe.is in
      let made = made_so s k t Stepped a.step a.allowed refl in
      let shown : Shows new (after s (Next t)) (standing_after k Stepped) = subst (λ z. Shows new (after_any s z) (standing_after k Stepped)) made.2 a.shown in
      let now : steps_owed (txn_shown new t) ≡ left_of ((after s (Next t)).txns t) = shown_left new (after s (Next t)) (standing_after k Stepped) shown t in
      let less : left_of ((after s (Next t)).txns t) < left_of (s.txns t) = fewer_left s t (λ u x e. (safe.is.fit.txns u x e).shaped) made.0 made.1 in
      subst (λ n. n < steps_owed (txn_shown old t)) (sym now) (subst (λ n. left_of ((after s (Next t)).txns t) < n) (sym was) less)

  progress_none : (p : Progress) (a : Active) → IsProgressOf p a.phase → a.rolling ≡ rolls p → (Owes a → ⊥) → steps_in p ≡ 0
  progress_none Ready a e r n = refl
  progress_none OwesRow a e r n = absurd (n (inl e, r))
  progress_none OwesEntry a e r n = absurd (n (inr e, r))
  progress_none Rolling a e r n = refl
  progress_none UndoesRow a e r n = refl
  progress_none UndoesEntry a e r n = refl

  none_by : (o : Option TxnState) → AreOne o (s.txns t) → (Owes (txn_at s t) → ⊥) → steps_owed o ≡ 0
  none_by None is n = refl
  none_by (Some x) is n = progress_none x.progress is.0 is.2.phase is.2.rolling (λ owes. n (subst Owes (sym (ap (λ o. unwrap_or o new_txn) is.1)) owes))

  pub none_owed : Serves old (Event.Step t) Skipped new → steps_owed (txn_shown old t) ≡ 0
  none_owed serves =
      let a : Answers old s k (Event.Step t) Skipped new = serves s k safe.is in
      none_by (txn_shown old t) (safe.is.shown.txns t) (skipped_so s k t Skipped a.step a.allowed refl)

two_in : (p : Progress) → steps_in p ≤ 2
two_in Ready = omega arith
two_in OwesRow = omega arith
two_in OwesEntry = omega arith
two_in Rolling = omega arith
two_in UndoesRow = omega arith
two_in UndoesEntry = omega arith

pub two_owed : (o : Option TxnState) → steps_owed o ≤ 2
two_owed None = omega arith
two_owed (Some x) = two_in x.progress
