use Rattle.std.proofs.Common.{◌∙◌, ap, arith, Err, inl, inr, refl}
use Rattle.std.proofs.lemmas.Result.{err_from_is_err_and}
use Rattle.program_rows.proofs.loading.flush_to.Goals as goal

pub returns-in_err-granted : goal.returns-in_err-granted
returns-in_err-granted g c =
    let p = err_from_is_err_and c.from_residual.result c.from_residual.ensures.1 in
    rw (p.1 ∙ ap Err p.2) (record { safe = tt; refused = (c.flush.result, c.flush.ensures, inl c.in_err-granted.ensures.refused) })

pub returns-then-horizon-number : goal.returns-then-horizon-number
returns-then-horizon-number g c = record {
  safe = tt;
  refused = (c.flush.result, c.flush.ensures, inr (omega (arith, c.if-horizon-number.true, c.horizon.ensures), refl));
}

pub returns : goal.returns
returns g c = record {
  safe = (c.flush.result, c.flush.ensures, omega (arith, c.if-horizon-number.false, c.horizon.ensures));
  refused = tt;
}
