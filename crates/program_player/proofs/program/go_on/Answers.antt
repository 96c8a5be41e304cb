use Rattle.std.proofs.Common.{Ok, Result, ap, subst, sym}
use Rattle.program_values.specs.declared.answer.Answer.{Answer}
use Rattle.program_player.specs.Runs.{GoesOn}
use Rattle.program_player.specs.declared.session.Stopped.{Stopped}
use Rattle.program_player.proofs.Kept.{on_ok_of}
use Rattle.program_player.proofs.program.go_on.Goals as goal

pub returns-in_ok-session-in-Ok : goal.returns-in_ok-session-in-Ok
returns-in_ok-session-in-Ok g c =
    subst (λ (a : Result Answer Stopped).
    GoesOn g.W.Write.contents a c.args.session (Ok c.in_ok-session-in-Ok.session) c.args.output.now c.print.new.output) (sym c.in-Ok.is)
    (ap Ok c.in_ok-session-in-Ok.ensures.0, on_ok_of _ c.print.result tt c.in_ok-session-in-Ok.ensures.1 c.print.ensures)
