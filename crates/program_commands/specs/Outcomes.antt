-- What came of a request.
use Rattle.std.specs.Prelude.{Bool, false, true}
use Rattle.program_values.specs.declared.answer.Answer.{Answer}
use Rattle.program_values.specs.declared.answer.Answer.TheVariants as answer
use Rattle.program_commands.specs.declared.outcome.Outcome.{Outcome}
use Rattle.program_commands.specs.declared.outcome.Outcome.TheVariants.{Ticket, Refused, Several, Skipped, Other}

-- what came of a request whose last answer this is
abbrev pub outcome_of : Answer → Outcome
outcome_of (answer.Ticket number) = Ticket
outcome_of (answer.Refused e) = Refused e
outcome_of (answer.Several rids) = Several
outcome_of answer.Skipped = Skipped
outcome_of other = Other

-- whether the request was refused
abbrev pub is_refusal : Outcome → Bool
is_refusal (Refused e) = true
is_refusal Several = true
is_refusal _ = false
