use Rattle.std.proofs.Common.{◌∙◌, ◌++◌, ◌∷◌, [], List, ap, ℕ}
use Rattle.program_rows.specs.Objects.{json_of_row}
use Rattle.program_rows.proofs.objects.json_line.Goals as goal

pub returns : goal.returns
unfolding json_of_row
returns c = record {
  line = c.in_ok-push.ensures.items ∙ ap (λ (text : List ℕ). text ++ 10 ∷ []) c.in_ok-text.ensures.text;
}
