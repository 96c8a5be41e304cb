-- A call that is refused makes no step, and leaves the core as it was.
use Rattle.std.proofs.Common.{None, Option, inl, inr, refl, sym, ◌+◌, ◌∙◌, ◌≡◌}
use Rattle.std.specs.FinMap.{get}
use Rattle.record_values.specs.declared.error.Error.{Error}
use Rattle.core_model.specs.States.{State}
use Rattle.core_model.specs.Steps.{MachineStep}
use Rattle.core_model.specs.Events.{Built, Cleaner, Empty, Ended, Event, Found, LifeIs, Refused, Reply, RowIs, Standing, Stepped, Txn, Undone}
use Rattle.core_model.specs.Replies.{IsAllowed, IsStepDue, accepted, no_memory, refused, refused_last, skipped, unknown}
use Rattle.core_parts.specs.View.{Answers, CoreValue, IsSafe, Serves}

module _ (s : State) (k : Standing) (error : Error) where
  -- what is due is no refusal
  due_apart : (e : Event) (reply : Reply) (step : Option MachineStep) → IsStepDue s k e reply step → reply ≡ Refused error → ⊥
  due_apart Event.Begin reply step d is = let other : Txn (k.begun + 1) ≡ Refused error = sym d.0 ∙ is in absurd cc
  due_apart (Event.Insert t row) reply step d is = let other : Reply.Rid d.0 ≡ Refused error = sym d.2 ∙ is in absurd cc
  due_apart (Event.Delete t r) reply step d is = let other : Stepped ≡ Refused error = sym d.2 ∙ is in absurd cc
  due_apart (Event.Update t r row) reply step d is = let other : Stepped ≡ Refused error = sym d.2 ∙ is in absurd cc
  due_apart (Event.Step t) reply step d is = let other : Stepped ≡ Refused error = sym d.0 ∙ is in absurd cc
  due_apart (Event.Undo t) reply step d is = elim d.0 [
    | inl none ↦ let other : Empty ≡ Refused error = sym none.1 ∙ is in absurd cc
    | inr some ↦ let other : Undone ≡ Refused error = sym some.1 ∙ is in absurd cc
  ]
  due_apart (Event.End t) reply step d is = let other : Ended ≡ Refused error = sym d.0 ∙ is in absurd cc
  due_apart (Event.Commit t) reply step d is = let other : Reply.Committed (k.made + 1) (k.commits + 1) ≡ Refused error = sym d.0 ∙ is in absurd cc
  due_apart Event.Create reply step d is = let other : Reply.Ticketed (k.made + 1) ≡ Refused error = sym d.0 ∙ is in absurd cc
  due_apart Event.Build reply step d is = let other : Built d.0 ≡ Refused error = sym d.2 ∙ is in absurd cc
  due_apart Event.Clean reply step d is = let other : Cleaner d.0 ≡ Refused error = sym d.2 ∙ is in absurd cc
  due_apart (Event.Get r) reply step d is = let other : RowIs (get s.rows r) ≡ Refused error = sym d.0 ∙ is in absurd cc
  due_apart (Event.Find key) reply step d is = let other : Found d.0 ≡ Refused error = sym d.2 ∙ is in absurd cc
  due_apart Event.Life reply step d is = let other : LifeIs s.life ≡ Refused error = sym d.0 ∙ is in absurd cc
  due_apart Event.Drop reply step d is = let other : Reply.Ticketed (k.made + 1) ≡ Refused error = sym d.0 ∙ is in absurd cc

  no_step : (e : Event) (reply : Reply) (step : Option MachineStep) → reply ≡ Refused error → IsAllowed s k e reply step → step ≡ None
  no_step e _ _ is (unknown a) = refl
  no_step e _ _ is (skipped a p) = refl
  no_step e _ _ is (refused a p other f) = refl
  no_step e _ _ is (refused_last a p f r x due other g) = refl
  no_step e _ _ is (no_memory a p f r x due g w) = refl
  no_step e reply step is (accepted a p f _ _ due g) = absurd (due_apart e reply step due is)

pub refused_unchanged : (old new : CoreValue) (e : Event) (error : Error) → IsSafe old → Serves old e (Refused error) new → new ≡ old
refused_unchanged old new e error safe serves =
    let a : Answers old safe.state safe.standing e (Refused error) new = serves safe.state safe.standing safe.is in
    a.unchanged (no_step safe.state safe.standing error e (Refused error) a.step refl a.allowed)
