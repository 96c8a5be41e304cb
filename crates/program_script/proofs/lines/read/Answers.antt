use Rattle.std.proofs.Common.{refl, inr}
use Rattle.std.specs.Option.{option_map}
use Rattle.std.proofs.lemmas.Result.{err_from_is_err_and}
use Rattle.program_script.specs.Grammar.{lines}
use Rattle.program_script.specs.Reading.{parts_left}
use Rattle.program_script.proofs.Scripts.{added, ended, too_many_left, refused}
use Rattle.program_script.proofs.lines.read.Goals as goal

pub returns-then-done-ge-LINES_MAX-clause-err : goal.returns-then-done-ge-LINES_MAX-clause-err
returns-then-done-ge-LINES_MAX-clause-err c =
    let h = rw c.in-Some.is at c.loop-rest.invariant in
    inr (
      c.loop-rest.done,
      refl,
      too_many_left (lines c.args.text.now) c.loop-rest.done c.in-Some.text.now c.loop-rest.commands.items h
          c.if-done-ge-LINES_MAX.true,
    )

pub returns-in_err-add_line-clause-err : goal.returns-in_err-add_line-clause-err
returns-in_err-add_line-clause-err c =
    let h = rw (c.in-Some.is, c.cut_at.ensures) at c.loop-rest.invariant in
    let p = err_from_is_err_and c.from_residual.result c.from_residual.ensures.1 in
    rw (p.1, p.2) (refused (lines c.args.text.now) c.loop-rest.done c.cut_at.result.0.now
    (parts_left 10 (option_map (λ r. r.now) c.cut_at.result.1)) c.loop-rest.commands.items c.in_err-add_line.field-0.0 h c.in_err-add_line.ensures.err)

pub loop-rest-preserved : goal.loop-rest-preserved
loop-rest-preserved c =
    let h = rw (c.in-Some.is, c.cut_at.ensures) at c.loop-rest.invariant in
    added (lines c.args.text.now) c.loop-rest.done c.cut_at.result.0.now
    (parts_left 10 (option_map (λ r. r.now) c.cut_at.result.1)) c.loop-rest.commands.items c.add_line.new.commands.items h c.if-done-ge-LINES_MAX.false
    c.in_ok-add_line.ensures.ok

pub returns-clause-ok : goal.returns-clause-ok
returns-clause-ok c = ended (lines c.args.text.now) c.loop-rest.done c.loop-rest.commands.items (rw c.in_default.is at c.loop-rest.invariant)
