use Rattle.std.proofs.Common.{◌≡◌, IfOk, List, ℕ, subst}
use Rattle.csv.specs.Writing.{default_writer, row_text}
use Rattle.program_rows.proofs.text.row_line.Goals as goal

pub returns-clause-text : goal.returns-clause-text
returns-clause-text c = subst (λ (fields : List (List ℕ)). IfOk c.line_of.result (λ text. text.items ≡ row_text default_writer fields)) c.in_ok-fields.ensures
    c.line_of.ensures.text
