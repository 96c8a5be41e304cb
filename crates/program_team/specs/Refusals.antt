-- How it is told that no store was opened.
use Rattle.threads_lifetime.specs.declared.refusal.OpenError.{OpenError}
use Rattle.threads_lifetime.specs.declared.refusal.OpenError.TheVariants as opening
use Rattle.program_team.specs.declared.refusal.NotOpened.{NotOpened}
use Rattle.program_team.specs.declared.refusal.NotOpened.TheVariants.{NoThread, Refused, Unsound}

-- the same refusal
abbrev pub told_as : OpenError → NotOpened
told_as (opening.Refused error) = Refused error
told_as opening.Unsound = Unsound
told_as opening.NoThread = NoThread
