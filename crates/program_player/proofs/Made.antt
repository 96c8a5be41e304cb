-- Steps of the builder or of the cleaner, one after another.
use Rattle.std.specs.Prelude.{◌⊎◌}
use Rattle.std.proofs.Common.{◌≡◌, ℕ, ◌+◌, ◌<◌, false, List, [], ◌∷◌, length, Option, Result, Ok, refl, subst, inl, inr, arith}
use Rattle.std.specs.declared.alloc.Global.{Global}
use Rattle.restart.specs.declared.event.Event.{Event}
use Rattle.restart.specs.declared.event.Reply.{Reply}
use Rattle.program_values.specs.Steps.{is_last_step}
use Rattle.program_values.specs.declared.answer.Answer.{Answer}
use Rattle.program_player.specs.Session.{outcome_of, ServesEvent}
use Rattle.program_player.specs.Runs.{Prints, GoesOn, IsLast, MakesSteps}
use Rattle.program_player.specs.declared.session.Session.{Session}
use Rattle.program_player.specs.declared.session.Stopped.{Stopped}
use Rattle.program_player.specs.declared.session.End.{End}

module _ {W : Type 0} (contents : W → Option (List ℕ)) (event : Event) where
  -- none was asked for
  pub no_step : (session : Session) (output : W) → MakesSteps contents event 0 session (Ok session) output output
  no_step session output = ([], session, output, (refl, refl), inl (refl, refl, refl))

  -- a step that is not the last one, before those that follow
  pub one_step : (count : ℕ) (old mid : Session) (next : Result Session End) (before between after : W) (reply : Reply Global) (answer : Answer)
      → ServesEvent event reply old mid → outcome_of mid reply ≡ Ok answer → is_last_step answer ≡ false → Prints contents answer before between
      → MakesSteps contents event count mid next between after → MakesSteps contents event (count + 1) old next before after
  one_step count old mid next before between after reply answer serves told goes prints (answers, last, at, made, ends) =
      (answer ∷ answers, last, at, (mid, reply, between, serves, told, goes, prints, made), by_end ends)
    where
      by_end : ((length answers ≡ count) × (next ≡ Ok last) × (after ≡ at))
          ⊎ ((length answers < count) × (new : Session) × (reply : Reply Global) × ServesEvent event reply last new
          × IsLast (outcome_of new reply) × GoesOn contents (outcome_of new reply) new next at after)
          → ((length (answer ∷ answers) ≡ count + 1) × (next ≡ Ok last) × (after ≡ at))
          ⊎ ((length (answer ∷ answers) < count + 1) × (new : Session) × (reply : Reply Global) × ServesEvent event reply last new
          × IsLast (outcome_of new reply) × GoesOn contents (outcome_of new reply) new next at after)
      by_end (inl h) = inl (omega (arith, h.0), h.1, h.2)
      by_end (inr h) = inr (omega (arith, h.0), h.1, h.2, h.3, h.4, h.5)

  -- the last step
  pub last_step : (count : ℕ) (old new : Session) (next : Result Session End) (before after : W) (reply : Reply Global) (outcome : Result Answer Stopped)
      → 0 < count → ServesEvent event reply old new → outcome ≡ outcome_of new reply → IsLast outcome → GoesOn contents outcome new next before after
      → MakesSteps contents event count old next before after
  last_step count old new next before after reply outcome some serves told last goes = (
    [],
    old,
    before,
    (refl, refl),
    inr (
      some,
      new,
      reply,
      serves,
      subst IsLast told last,
      subst (λ (o : Result Answer Stopped). GoesOn contents o new next before after) told goes,
    ),
  )
