use Rattle.std.proofs.lemmas.Result.{err_from_is_err_and}
use Rattle.program_commands.proofs.guarded.GuardedStore.answer_key.Goals as goal

pub returns-clause-ok : goal.returns-clause-ok
returns-clause-ok g c = (c.serve_key-answer.result, c.serve_key-answer.ensures, c.in_ok-outcome.ensures.0, c.in_ok-outcome.ensures.1)

pub returns-in_err-outcome-clause-err : goal.returns-in_err-outcome-clause-err
returns-in_err-outcome-clause-err g c =
    let p = err_from_is_err_and c.from_residual.result c.from_residual.ensures.1 in
    rw p.1 (c.serve_key-answer.result, c.serve_key-answer.ensures)
