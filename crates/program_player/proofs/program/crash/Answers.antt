use Rattle.std.proofs.Common.{Ok, subst, sym}
use Rattle.model.specs.declared.life.Life.{Life}
use Rattle.program_player.specs.Runs.{Prints, Restarts}
use Rattle.program_player.specs.declared.session.Session.{Session}
use Rattle.program_values.specs.declared.answer.Answer.TheVariants.{Restart}
use Rattle.program_player.proofs.Kept.{on_ok_of}
use Rattle.program_player.proofs.program.crash.Goals as goal

pub returns-in_ok-session-in-Ok : goal.returns-in_ok-session-in-Ok
returns-in_ok-session-in-Ok g c =
    let after = c.print-printed.new.output in
    subst (λ (s : Session). Restarts g.W.Write.contents c.args.fate c.args.session (Ok s) c.args.output.now after) (sym c.in_ok-session-in-Ok.ensures.0) (
      c.in-Ok.ensures.survives,
      c.in-Ok.ensures.crashed,
      subst (λ (life : Life). Prints g.W.Write.contents (Restart life) c.args.output.now after) c.life.ensures
          (on_ok_of _ c.print-printed.result tt c.in_ok-session-in-Ok.ensures.1 c.print-printed.ensures),
    )
