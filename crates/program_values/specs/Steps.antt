-- Which steps of the builder and the cleaner are the last ones of a command.
use Rattle.std.specs.Prelude.{Bool, true, false}
use Rattle.program_values.specs.declared.step.Step.{Step}
use Rattle.program_values.specs.declared.step.Step.TheVariants as step
use Rattle.program_values.specs.declared.answer.Answer.{Answer}
use Rattle.program_values.specs.declared.answer.Answer.TheVariants as answer

-- the index is complete
abbrev pub ends_steps : Step → Bool
ends_steps (step.Completed number) = true
ends_steps step.Idle = true
ends_steps _ = false

-- no step of the same command follows this answer: the index is complete, or the step was refused
abbrev pub is_last_step : Answer → Bool
is_last_step (answer.Made step) = ends_steps step
is_last_step (answer.Refused error) = true
is_last_step _ = false
