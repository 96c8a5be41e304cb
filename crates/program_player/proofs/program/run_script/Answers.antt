use Rattle.std.proofs.Common.{inl, inr, ℕ, sym, subst}
use Rattle.std.proofs.lemmas.Result.{IfOk-weaker}
use Rattle.program_script.specs.Grammar.{lines, IsScript}
use Rattle.program_player.specs.Plays.{IsRefused, Ends, Plays}
use Rattle.program_player.proofs.program.run_script.Goals as goal

pub returns-in_ok-last-in-Ok : goal.returns-in_ok-last-in-Ok
returns-in_ok-last-in-Ok g c =
    let contents = g.W.Write.contents in
    let arguments = c.args.arguments.now in
    let text = c.args.text.now in
    let script = subst (IsScript (lines text)) (sym c.deref.ensures.value) c.in-Ok.ensures.script in
    IfOk-weaker c.end.result (λ (status : ℕ). Ends contents arguments c.in_ok-last-in-Ok.last status c.run_commands.new.output c.end.new.output)
    (λ (status : ℕ). Plays contents arguments text status c.args.output.now c.end.new.output)
    (λ status ends. inr (
      c.deref.result.now,
      c.in-Ok.session,
      c.in_ok-last-in-Ok.last,
      c.run_commands.new.output,
      script,
      c.in-Ok.ensures.starts,
      c.in_ok-last-in-Ok.ensures,
      ends,
    ))
    c.end.ensures

pub returns-in-Err : goal.returns-in-Err
returns-in-Err g c =
    let contents = g.W.Write.contents in
    IfOk-weaker c.refused.result (λ (status : ℕ). IsRefused contents c.in-Err.error status c.args.output.now c.refused.new.output)
    (λ (status : ℕ). Plays contents c.args.arguments.now c.args.text.now status c.args.output.now c.refused.new.output)
    (λ status told. inl (c.in-Err.error, c.in-Err.ensures.fault, told))
    c.refused.ensures
