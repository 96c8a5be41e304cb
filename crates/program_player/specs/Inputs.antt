-- What is read of the input of a script.
use Rattle.std.specs.Prelude.{[], count_by, IfSome, List, Option, ℕ, ◌++◌, ◌<◌, ◌==◌, ◌≡◌, ◌⊎◌}
use Rattle.program_script.specs.declared.lines.TheConstants.{LINES_MAX}
use Rattle.program_player.specs.declared.input.ScriptInput.{ScriptInput}

-- how many line feeds a text has
abbrev pub feeds_in : List ℕ → ℕ
feeds_in text = count_by (λ byte. byte == 10) text

-- the input that is read
abbrev pub source_under : {R : Type 0} → ScriptInput R → R
source_under s = s.source

-- the text is all that an input has, or its beginning, with more lines than a script may have
abbrev pub IsEnoughOf : List ℕ → List ℕ → Type 0
IsEnoughOf bytes text = (rest : List ℕ) × (bytes ≡ text ++ rest) × ((rest ≡ []) ⊎ (LINES_MAX < feeds_in text))

-- the same, where what the input has is known
abbrev pub IsEnough : Option (List ℕ) → List ℕ → Type 0
IsEnough input text = IfSome input (λ bytes. IsEnoughOf bytes text)
