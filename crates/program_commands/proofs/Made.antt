-- Steps of the builder or of the cleaner, one after another.
use Rattle.std.proofs.Common.{◌≡◌, ◌⊎◌, ℕ, ◌+◌, ◌<◌, true, false, List, [], ◌∷◌, length, Option, refl, inl, inr, arith}
use Rattle.sector_device.specs.DevicePast.{DevicePast}
use Rattle.restart.specs.declared.event.Event.{Event}
use Rattle.program_values.specs.Steps.{is_last_step}
use Rattle.program_values.specs.declared.answer.Answer.{Answer}
use Rattle.program_commands.specs.Requested.{Tells, MakesSteps}
use Rattle.program_commands.specs.Outcomes.{outcome_of}
use Rattle.program_commands.specs.declared.guarded.GuardedStore.{GuardedStore}
use Rattle.program_commands.specs.declared.outcome.Outcome.{Outcome}
use Rattle.program_commands.specs.declared.outcome.Outcome.TheVariants.{Other}

module _ {D W : Type 0} (past_of : D → DevicePast) (failures : D → ℕ) (contents : W → Option (List ℕ)) (event : Event) where
  -- none was asked for
  pub no_step : (s : GuardedStore D) (output : W) → MakesSteps past_of failures contents event 0 Other s s output output
  no_step s output = ([], s, output, (refl, refl), inl (refl, refl, refl, refl))

  -- a step that is not the last one, before those that follow
  pub one_step : (count : ℕ) (outcome : Outcome) (old mid new : GuardedStore D) (before between after : W) (told : Answer)
      → Tells past_of failures contents event told old mid before between → is_last_step told ≡ false
      → MakesSteps past_of failures contents event count outcome mid new between after
      → MakesSteps past_of failures contents event (count + 1) outcome old new before after
  one_step count outcome old mid new before between after told tells goes (answers, last, at, made, ends) =
      (told ∷ answers, last, at, (mid, between, tells, goes, made), by_end ends)
    where
      by_end : ((length answers ≡ count) × (outcome ≡ Other) × (new ≡ last) × (after ≡ at))
          ⊎ ((length answers < count) × (final : Answer) × Tells past_of failures contents event final last new at after × (is_last_step final ≡ true)
          × (outcome ≡ outcome_of final))
          → ((length (told ∷ answers) ≡ count + 1) × (outcome ≡ Other) × (new ≡ last) × (after ≡ at))
          ⊎ ((length (told ∷ answers) < count + 1) × (final : Answer) × Tells past_of failures contents event final last new at after
          × (is_last_step final ≡ true) × (outcome ≡ outcome_of final))
      by_end (inl h) = inl (omega (arith, h.0), h.1, h.2, h.3)
      by_end (inr h) = inr (omega (arith, h.0), h.1, h.2, h.3, h.4)

  -- the last step
  pub last_step : (count : ℕ) (outcome : Outcome) (old new : GuardedStore D) (before after : W) (told : Answer)
      → 0 < count → Tells past_of failures contents event told old new before after → is_last_step told ≡ true → outcome ≡ outcome_of told
      → MakesSteps past_of failures contents event count outcome old new before after
  last_step count outcome old new before after told some tells ends is = ([], old, before, (refl, refl), inr (some, told, tells, ends, is))
