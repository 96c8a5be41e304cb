-- What is told in place of arguments.
use Rattle.std.specs.Prelude.{◌≡◌, ◌≢◌, ◌≤◌, ◌⊎◌, ℕ, List}
use Rattle.clap.specs.Words.{Text}
use Rattle.clap.specs.declared.error.kind.ErrorKind.{ErrorKind}
use Rattle.clap.specs.declared.error.kind.ErrorKind.TheVariants.{DisplayHelp, DisplayVersion}
use Rattle.program_arguments.specs.CommandLine.{AskForHelp, HaveFault}
use Rattle.program_arguments.specs.declared.NoArguments.{NoArguments}
use Rattle.program_arguments.specs.declared.NoArguments.TheVariants.{NoMemory, Told}

-- Help, or the version, has the status 0, or 1 where it can't be written, and nothing on the error stream.
abbrev pub IsHelp : {E : Type 0} → ℕ → E → E → Type 0
IsHelp status errors errors' = (status ≤ 1) × (errors' ≡ errors)

-- A fault has the status 2 and nothing on the output.
abbrev pub IsFault : {O : Type 0} → ℕ → O → O → Type 0
IsFault status output output' = (status ≡ 2) × (output' ≡ output)

module _ {O E : Type 0} where
  -- what is told of this kind of failure
  abbrev pub IsTold : ErrorKind → ℕ → O → O → E → E → Type 0
  IsTold kind status output output' errors errors' =
      (((kind ≡ DisplayHelp) ⊎ (kind ≡ DisplayVersion)) × IsHelp status errors errors')
      ⊎ ((kind ≢ DisplayHelp) × (kind ≢ DisplayVersion) × IsFault status output output')

  -- Help or the version is told where the words ask for it, and a fault where they have one. Want of memory is not
  -- told.
  abbrev pub Tells : List Text → NoArguments → O → O → E → E → Type 0
  Tells words NoMemory output output' errors errors' = (output' ≡ output) × (errors' ≡ errors)
  Tells words (Told status) output output' errors errors' =
      (AskForHelp words × IsHelp status errors errors') ⊎ (HaveFault words × IsFault status output output')
