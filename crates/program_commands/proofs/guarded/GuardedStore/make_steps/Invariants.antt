use Rattle.std.proofs.Common.{◌-◌, ◌≤◌, List, length}
use Rattle.std.specs.declared.alloc.Global.{Global}
use Rattle.restart.specs.declared.event.Reply.{Reply}
use Rattle.program_commands.specs.Requested.{AreServed, MakesSome, MakesSteps}
use Rattle.program_commands.specs.declared.guarded.GuardedStore.{GuardedStore}
use Rattle.program_commands.specs.declared.outcome.Outcome.{Outcome}
use Rattle.program_commands.proofs.guarded.GuardedStore.make_steps.Given as goal

-- what the steps from here on do is done by all of them
abbrev pub invariant-loop : goal.invariant-loop
invariant-loop g l = record {
  runs : (outcome : Outcome) (new : GuardedStore g.row.D.Denot) (after : g.row.W.Denot)
      → MakesSteps g.D.Device.past_of g.D.Device.failures g.W.Write.contents l.event (l.count - l.counter) outcome l.self new l.output after
      → MakesSteps g.D.Device.past_of g.D.Device.failures g.W.Write.contents l.event l.count outcome l.initial.self new l.initial.output after;
  made : (replies : List (Reply Global)) (new : GuardedStore g.row.D.Denot) → length replies ≤ l.count - l.counter
      → AreServed g.D.Device.past_of g.D.Device.failures l.event replies l.self new
      → MakesSome g.D.Device.past_of g.D.Device.failures l.event l.count l.initial.self new;
}
