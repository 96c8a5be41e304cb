use Rattle.std.proofs.Common.{◌-◌, Result}
use Rattle.program_player.specs.Runs.{MakesSteps}
use Rattle.program_player.specs.declared.session.Session.{Session}
use Rattle.program_player.specs.declared.session.End.{End}
use Rattle.program_player.proofs.program.make_steps.Given as goal

-- what the steps from here on do is done by all of them
abbrev pub invariant-loop : goal.invariant-loop
invariant-loop g l = record {
  runs : (next : Result Session End) (after : g.row.W.Denot)
      → MakesSteps g.W.Write.contents l.event (l.count - l.counter) l.session next l.output after
      → MakesSteps g.W.Write.contents l.event l.count l.initial.session next l.initial.output after;
}
