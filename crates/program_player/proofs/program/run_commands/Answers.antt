use Rattle.std.proofs.Common.{◌≡◌, ℕ, ◌+◌, ◌<◌, ◌≤◌, List, ◌∷◌, length, get_or, drop, Result, Ok, Err, refl, sym, subst, arith}
use Rattle.std.proofs.lemmas.List.{drop_all, drop_more}
use Rattle.program_player.specs.Runs.{RunsCommand, RunsCommands}
use Rattle.program_script.specs.declared.command.Command.{Command}
use Rattle.program_player.specs.declared.session.End.{End}
use Rattle.program_player.specs.declared.session.Session.{Session}
use Rattle.program_player.proofs.program.run_commands.Goals as goal

-- What holds of a command and those behind it, holds of the commands from it on.
from_here : (R : List Command → Type 0) (commands : List Command) (i : ℕ) (command : Command) → i < length commands
    → command ≡ get_or commands i command → R (command ∷ drop (i + 1) commands) → R (drop i commands)
from_here R commands i command inside is holds =
    subst R (sym (drop_more commands i command inside))
    (subst (λ (first : Command). R (first ∷ drop (i + 1) commands)) is holds)

pub returns-in-Err : goal.returns-in-Err
returns-in-Err g c =
    let ends = c.in-Err.end in
    let after = c.run_command.new.output in
    let commands = c.args.commands.now in
    let inside : c.loop-command.command-index < length commands = omega arith in
    c.loop-command.invariant.runs (Err ends) after
    (from_here (λ (rest : List Command). RunsCommands g.W.Write.contents rest c.loop-command.session (Err ends) c.loop-command.output after)
    commands c.loop-command.command-index c.command-item.result inside c.command-item.is (
      Err ends,
      after,
      subst (λ (next : Result Session End).
          RunsCommand g.W.Write.contents c.command-item.result c.loop-command.session next c.loop-command.output after) c.in-Err.is c.in_ok-next.ensures,
      (refl, refl),
    ))

pub returns : goal.returns
returns g c =
    let commands = c.args.commands.now in
    let past : length commands ≤ c.loop-command.command-index = omega arith in
    let none : RunsCommands g.W.Write.contents (drop c.loop-command.command-index commands) c.loop-command.session
    (Ok tt) c.loop-command.output c.loop-command.output =
    subst (λ (rest : List Command). RunsCommands g.W.Write.contents rest c.loop-command.session (Ok tt) c.loop-command.output c.loop-command.output)
    (sym (drop_all c.loop-command.command-index commands past)) (refl, refl) in
    c.loop-command.invariant.runs (Ok tt) c.loop-command.output none

pub loop-command-preserved : goal.loop-command-preserved
loop-command-preserved g c =
    let between = c.run_command.new.output in
    let commands = c.args.commands.now in
    let inside : c.loop-command.command-index < length commands = omega arith in
    record {
      runs = λ last after rest_runs.
          c.loop-command.invariant.runs last after
          (from_here (λ (rest : List Command). RunsCommands g.W.Write.contents rest c.loop-command.session last c.loop-command.output after)
          commands c.loop-command.command-index c.command-item.result inside c.command-item.is (
            Ok c.in-Ok.next,
            between,
            subst (λ (next : Result Session End).
                RunsCommand g.W.Write.contents c.command-item.result c.loop-command.session next c.loop-command.output between) c.in-Ok.is c.in_ok-next.ensures,
            rest_runs,
          ));
    }
