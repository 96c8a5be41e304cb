use Rattle.std.proofs.Common.{◌≡◌, false, refl, sym, ◌∙◌, inr, arith}
use Rattle.program_script.specs.Grammar.{is_left_out}
use Rattle.program_script.proofs.Commands.{read_line, bad_line}
use Rattle.program_script.proofs.lines.add_line.Goals as goal

pub returns-in_ok-push-in-Some-clause-ok : goal.returns-in_ok-push-in-Some-clause-ok
returns-in_ok-push-in-Some-clause-ok c =
    let kept : is_left_out c.args.line.now ≡ false = grind (arith, c.if-is_skipped.false, c.is_skipped.ensures) in
    inr (kept, c.in-Some.command, read_line c.args.line.now c.in-Some.command (sym c.in-Some.is ∙ c.in_ok-command.ensures), c.in_ok-push-in-Some.ensures.items)

pub returns-in-None-clause-err : goal.returns-in-None-clause-err
returns-in-None-clause-err c =
    let kept : is_left_out c.args.line.now ≡ false = grind (arith, c.if-is_skipped.false, c.is_skipped.ensures) in
    inr (refl, bad_line c.args.line.now kept (sym c.in-None.is ∙ c.in_ok-command.ensures))
