use Rattle.std.proofs.Common.{◌≡◌, ◌∙◌, true, false, arith}
use Rattle.program_script.specs.Reading.{begins_as_number}
use Rattle.program_script.proofs.Numbers.{unlike_a_number, no_text, parsed}
use Rattle.program_script.proofs.word.number_of.Goals as goal

pub returns-then-not-has_no_leading_zero : goal.returns-then-not-has_no_leading_zero
returns-then-not-has_no_leading_zero c =
    let no : begins_as_number c.args.word.now ≡ false = grind (arith, c.if-not-has_no_leading_zero.true, c.has_no_leading_zero.ensures) in
    unlike_a_number c.args.word.now no

pub returns-in-Ok : goal.returns-in-Ok
returns-in-Ok c =
    let yes : begins_as_number c.args.word.now ≡ true = grind (arith, c.if-not-has_no_leading_zero.false, c.has_no_leading_zero.ensures) in
    c.ok.ensures.value ∙ parsed c.args.word.now c.parse.result yes (rw c.in-Ok.ensures.cases.0 at c.parse.ensures.value.0)

pub returns-in-Err : goal.returns-in-Err
returns-in-Err c = no_text c.args.word.now c.in-Err.ensures.cases.0
