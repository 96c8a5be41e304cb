use Rattle.std.proofs.Common.{◌≡◌, ◌≤◌, ◌⊎◌, inl, inr, IfOk, List, Option, Result, ℕ, refl, subst}
use Rattle.std.proofs.lemmas.Result.{IfOk-weaker}
use Rattle.record_values.specs.declared.error.Error.TheVariants.{NoMemory}
use Rattle.program_arguments.specs.CommandLine.{Ask, AskForHelp, HaveFault}
use Rattle.program_values.specs.declared.given.Arguments.{Arguments}
use Rattle.program_player.specs.Plays.{IsRefused, PlaysInput, RunsWords}
use Rattle.program_player.proofs.program.run_words.Goals as goal

module _ {W R E : Type 0} (contents : W → Option (List ℕ)) (remaining : R → Option (List ℕ)) (words : List (List ℕ)) (input : R)
    (r : Result ℕ E) (before mid after : W) where
  played : (input' : R) (arguments : Arguments) → Ask words arguments → mid ≡ before
      → IfOk r (λ status. PlaysInput contents arguments (remaining input) status mid after)
      → IfOk r (λ status. RunsWords contents remaining words input input' status before after)
  played input' arguments asked same plays = IfOk-weaker r _ _
      (λ status p. inl (arguments, asked, subst (λ (w : W). PlaysInput contents arguments (remaining input) status w after) same p))
      plays

  no_memory : mid ≡ before → IfOk r (λ status. IsRefused contents NoMemory status mid after)
      → IfOk r (λ status. RunsWords contents remaining words input input status before after)
  no_memory same refused = IfOk-weaker r _ _
      (λ status told. inr (refl, inr (inr (subst (λ (w : W). IsRefused contents NoMemory status w after) same told))))
      refused

told : {W R X : Type 0} (contents : W → Option (List ℕ)) (remaining : R → Option (List ℕ)) (words : List (List ℕ)) (input : R) (before after : W)
    (status : ℕ) → (AskForHelp words × ((status ≤ 1) × X)) ⊎ (HaveFault words × ((status ≡ 2) × (after ≡ before)))
    → RunsWords contents remaining words input input status before after
told contents remaining words input before after status (inl help) = inr (refl, inl (help.0, help.1.0))
told contents remaining words input before after status (inr fault) = inr (refl, inr (inl (fault.0, fault.1.0, fault.1.1)))

pub returns-in-Ok : goal.returns-in-Ok
returns-in-Ok g c = played g.W.Write.contents g.R.Read.remaining _ c.args.input.now c.run_input.result c.args.output.now c.read.new.output
    c.run_input.new.output _ c.in-Ok.arguments c.in-Ok.ensures.asked c.in-Ok.ensures.output c.run_input.ensures

pub returns-in-Err-NoMemory : goal.returns-in-Err-NoMemory
returns-in-Err-NoMemory g c =
    let none = rw c.in-Err-NoMemory.field-0-is at c.in-Err-NoMemory.ensures.none in
    no_memory g.W.Write.contents g.R.Read.remaining _ c.args.input.now c.refused.result c.args.output.now c.read.new.output c.refused.new.output
    none.0 c.refused.ensures

pub returns-in-Err-Told : goal.returns-in-Err-Told
returns-in-Err-Told g c =
    let none = rw c.in-Err-Told.field-0-is at c.in-Err-Told.ensures.none in
    rw c.in-Err-Told.status-is
    (told g.W.Write.contents g.R.Read.remaining _ c.args.input.now c.args.output.now c.read.new.output c.in-Err-Told.status none)
