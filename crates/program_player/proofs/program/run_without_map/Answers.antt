use Rattle.std.proofs.Common.{◌≡◌, ◌⊎◌, inl, inr, ℕ, map, Result, Ok, Err, IfOk, refl, sym, subst}
use Rattle.std.specs.Result.{result_unwrap_or}
use Rattle.program_player.specs.Plays.{RunsWords}
use Rattle.program_player.proofs.program.run_without_map.Goals as goal

-- the status of what was run, or 1
status_of : {F : Type 0} (P : ℕ → Type 0) (r : Result ℕ F) → IfOk r P → (result_unwrap_or r 1 ≡ 1) ⊎ P (result_unwrap_or r 1)
status_of P (Ok status) holds = inr holds
status_of P (Err e) holds = inl refl

pub returns : goal.returns
returns g c =
    let runs : ℕ → Type 0 = λ status. RunsWords g.W.Write.contents g.R.Read.remaining (map g.S.AsStr.text c.args.words.now)
    c.args.input.now c.run_words.new.input status c.args.output.now c.run_words.new.output in
    subst (λ (status : ℕ). (status ≡ 1) ⊎ runs status) (sym c.unwrap_or.ensures) (status_of runs c.run_words.result c.run_words.ensures)
