use Rattle.std.proofs.Common.{◌<◌, ◌≤◌}
use Rattle.threads_loops.specs.Building.{HasAttempted}
use Rattle.threads_loops.proofs.build.build_until.Given as goal

abbrev pub invariant-loop : goal.invariant-loop
invariant-loop g l = record {
  rises : l.fn.build.progress ≤ l.build.progress;
  attempted : l.fn.build.progress < l.build.progress → ∥ HasAttempted g.B.Group.site.opened l.build.progress ∥₁;
}
