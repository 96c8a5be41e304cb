use Rattle.std.proofs.Common.{◌∙◌, ap, Err, refl}
use Rattle.std.proofs.lemmas.Result.{err_from_is_err_and}
use Rattle.program_rows.proofs.loading.Loader.take_found.Goals as goal

pub returns-in_err-commit : goal.returns-in_err-commit
returns-in_err-commit g c =
    let p = err_from_is_err_and c.from_residual.result c.from_residual.ensures.1 in
    rw (p.1 ∙ ap Err p.2) (rw c.in_default.is (record { taken = tt; refused = c.in_err-commit.ensures.refused }))

pub returns-in_default : goal.returns-in_default
returns-in_default g c = rw c.in_default.is (record { taken = (refl, c.in_ok-commit.ensures.safe); refused = tt })

pub returns-in_err-taken : goal.returns-in_err-taken
returns-in_err-taken g c =
    let p = err_from_is_err_and c.from_residual-in_err-taken.result c.from_residual-in_err-taken.ensures.1 in
    rw (p.1 ∙ ap Err p.2) (rw c.in-Some.is (record { taken = tt; refused = c.in_err-taken.ensures.refused }))

pub returns : goal.returns
returns g c = rw c.in-Some.is (record { taken = (c.deal_with.new.self, c.in_ok-taken.ensures.taken, refl); refused = tt })
