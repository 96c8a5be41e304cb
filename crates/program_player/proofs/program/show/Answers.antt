use Rattle.std.proofs.Common.{subst}
use Rattle.std.proofs.lemmas.Result.{on_ok_weaker}
use Rattle.model.specs.declared.life.Life.{Life}
use Rattle.program_values.specs.declared.answer.Answer.TheVariants.{Restart}
use Rattle.program_player.specs.Runs.{Prints}
use Rattle.program_player.proofs.program.show.Goals as goal

pub returns : goal.returns
returns g c =
    let contents = g.W.Write.contents in
    on_ok_weaker c.dump.result (λ text. (
      c.print.new.output,
      subst (λ (life : Life). Prints contents (Restart life) c.args.output.now c.print.new.output) c.life.ensures c.in_ok-print.ensures,
      text,
    )) c.dump.ensures
