use Rattle.std.proofs.Common.{drop, Result}
use Rattle.program_player.specs.Runs.{RunsCommands}
use Rattle.program_player.specs.declared.session.End.{End}
use Rattle.program_player.proofs.program.run_commands.Given as goal

-- what the commands from here on do is done by all of them
abbrev pub invariant-loop-command : goal.invariant-loop-command
invariant-loop-command g l = record {
  runs : (last : Result (Unit {0}) End) (after : g.row.W.Denot)
      → RunsCommands g.W.Write.contents (drop l.command-index l.commands) l.session last l.output after
      → RunsCommands g.W.Write.contents l.commands l.initial.session last l.initial.output after;
}
