use Rattle.std.proofs.Common.{◌≡◌, ◌∙◌, None, Some, ap, codes, option_map, sym}
use Rattle.std.specs.Prelude.{option_and_then}
use Rattle.clap.specs.Words.{first_of, found_of, rows_of}
use Rattle.clap.proofs.WalkLemmas.{first_value-rows}
use Rattle.program_values.specs.Arguments.{fate_of_name}
use Rattle.program_arguments.proofs.fate_found.Goals as goal

pub returns-in_err-get_str : goal.returns-in_err-get_str
returns-in_err-get_str c =
    let none : first_of (codes "fate") (rows_of (found_of c.args.matches.now)) ≡ None =
    sym (first_value-rows (found_of c.args.matches.now) (codes "fate")) ∙ sym c.get_str.ensures ∙ ap (option_map (λ s. s.now)) c.in_err-get_str.was in
    c.from_residual.ensures ∙ sym (ap (option_and_then fate_of_name) none)

pub returns : goal.returns
returns c =
    let some : first_of (codes "fate") (rows_of (found_of c.args.matches.now)) ≡ Some c.in_ok-get_str.field-0.now =
    sym (first_value-rows (found_of c.args.matches.now) (codes "fate")) ∙ sym c.get_str.ensures ∙ ap (option_map (λ s. s.now)) c.in_ok-get_str.was in
    c.fate_named.ensures ∙ sym (ap (option_and_then fate_of_name) some)
