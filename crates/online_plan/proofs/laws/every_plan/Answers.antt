use Rattle.std.proofs.Common.{None, Option, Some, refl}
use Rattle.std.specs.FinMap.{get}
use Rattle.record_values.specs.declared.pair.Mark.{Mark}
use Rattle.record_values.specs.declared.pair.Pair.{Pair}
use Rattle.online_index.specs.Builds.{listed}
use Rattle.online_model.specs.Logs.{notes_of_attempt}
use Rattle.online_plan.proofs.Planned.{attempt_set}
use Rattle.online_plan.proofs.laws.every_plan.Goals as goal
use Rattle.online_plan.specs.Plans.{attempt_plan}
use Rattle.std.specs.Prelude.{◌≡◌}

pub returns-clause-mark : goal.returns-clause-mark
returns-clause-mark c w p = (refl, refl)

pub returns-clause-put : goal.returns-clause-put
returns-clause-put c w p = (refl, refl)

noted : (p : Pair) (o : Option Mark) → notes_of_attempt p o ≡ listed (attempt_plan p o)
noted p None = refl
noted p (Some mark) = refl

pub returns-clause-attempt : goal.returns-clause-attempt
returns-clause-attempt c w p = (attempt_set w.entries p (get w.entries p) refl, noted p (get w.entries p))

pub returns-clause-clean : goal.returns-clause-clean
returns-clause-clean c w p is = (record { marked = is.marked; passed = is.passed }, refl, refl)
