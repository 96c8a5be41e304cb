use Rattle.std.proofs.Common.{refl, sym, ◌∙◌}
use Rattle.threads_leader.proofs.desk.ended_as.Goals as goal

pub returns-then-has_failed : goal.returns-then-has_failed
returns-then-has_failed g c = record { sound = tt; failed = (refl, sym c.has_failed.ensures ∙ c.if-has_failed.true) }

pub returns : goal.returns
returns g c = record { sound = sym c.has_failed.ensures ∙ c.if-has_failed.false; failed = tt }
