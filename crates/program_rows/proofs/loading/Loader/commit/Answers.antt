use Rattle.std.proofs.Common.{◌∙◌, ap, Err, inl, inr, refl}
use Rattle.std.proofs.lemmas.Result.{err_from_is_err_and}
use Rattle.program_rows.proofs.loading.Loader.commit.Goals as goal

pub returns-in_err-commit_safely : goal.returns-in_err-commit_safely
returns-in_err-commit_safely g c =
    let p = err_from_is_err_and c.from_residual.result c.from_residual.ensures.1 in
    rw (p.1 ∙ ap Err p.2) (record { safe = tt; refused = (c.in-Some.txn, c.in-Some.is, c.in_err-commit_safely.ensures.refused, refl) })

pub returns : goal.returns
returns g c = record {
  safe = inr (c.in-Some.txn, c.in-Some.is, c.in_ok-commit_safely.ensures.safe, rw c.saturating_add-self.ensures refl);
  refused = tt;
}
