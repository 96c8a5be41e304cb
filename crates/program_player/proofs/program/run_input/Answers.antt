use Rattle.std.proofs.Common.{inl, ℕ, List, [], Option, Some, None, refl, sym, subst}
use Rattle.std.proofs.lemmas.Result.{IfOk-weaker}
use Rattle.program_player.specs.Inputs.{IsEnough}
use Rattle.program_player.specs.Plays.{IsWholeInput}
use Rattle.program_player.proofs.Texts.{plays_input}
use Rattle.program_player.proofs.program.run_input.Goals as goal

-- a text that the input may have
some_text : (input : Option (List ℕ)) → (text : List ℕ) × IsWholeInput input text
some_text (Some bytes) = (bytes, refl)
some_text None = ([], tt)

pub returns-in-Ok : goal.returns-in-Ok
returns-in-Ok g c =
    let input = g.R.Read.remaining c.args.input.now in
    let text = c.deref-in-Ok.result.now in
    let enough : IsEnough input text = subst (λ (t : List ℕ). IsEnough input t) (sym c.deref-in-Ok.ensures.value) c.in-Ok.ensures.enough in
    IfOk-weaker c.run_script-ran.result _ _ (λ status plays. plays_input g.W.Write.contents c.args.arguments.now status _ _ input text enough plays)
    c.run_script-ran.ensures

pub returns-in-Err : goal.returns-in-Err
returns-in-Err g c =
    let some = some_text (g.R.Read.remaining c.args.input.now) in
    IfOk-weaker c.refused.result _ _ (λ status told. (some.0, some.1, inl (_, inl refl, told))) c.refused.ensures
