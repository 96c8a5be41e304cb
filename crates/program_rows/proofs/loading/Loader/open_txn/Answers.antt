use Rattle.std.proofs.Common.{◌∙◌, ap, Err, inl, inr, refl}
use Rattle.std.proofs.lemmas.Result.{err_from_is_err_and}
use Rattle.program_rows.proofs.loading.Loader.open_txn.Goals as goal

pub returns-in-Some : goal.returns-in-Some
returns-in-Some g c = record { opened = inl (c.in-Some.is, refl); refused = tt }

pub returns-in_err-txn : goal.returns-in_err-txn
returns-in_err-txn g c =
    let p = err_from_is_err_and c.from_residual.result c.from_residual.ensures.1 in
    rw (p.1 ∙ ap Err p.2) (record { opened = tt; refused = (c.in_default.is, c.in_err-txn.ensures.refused, refl) })

pub returns : goal.returns
returns g c = record { opened = inr (c.in_default.is, c.in_ok-txn.ensures.begun, refl); refused = tt }
