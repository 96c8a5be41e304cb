use Rattle.std.proofs.Common.{ℕ, Result, Err, IfOk, sym, subst}
use Rattle.program_player.specs.declared.session.End.{End}
use Rattle.program_player.specs.Plays.{Ends}
use Rattle.program_player.proofs.program.end.Goals as goal

pub returns-in-Err-Stopped : goal.returns-in-Err-Stopped
returns-in-Err-Stopped g c =
    let contents = g.W.Write.contents in
    let arguments = c.args.arguments.now in
    subst (λ (last : Result (Unit {0}) End). IfOk c.after_stop.result (λ (status : ℕ).
    Ends contents arguments last status c.args.output.now c.after_stop.new.output)) (sym c.in-Err-Stopped.is)
    (subst (λ (e : End). IfOk c.after_stop.result (λ (status : ℕ). Ends contents arguments (Err e) status c.args.output.now c.after_stop.new.output))
    (sym c.in-Err-Stopped.field-0-is) c.after_stop.ensures)
