use Rattle.std.proofs.Common.{◌∙◌, ap, arith, Err, inl, inr, refl}
use Rattle.std.proofs.lemmas.Result.{err_from_is_err_and}
use Rattle.program_rows.proofs.loading.Loader.add.Goals as goal

pub returns-in_err-put : goal.returns-in_err-put
returns-in_err-put g c =
    let p = err_from_is_err_and c.from_residual.result c.from_residual.ensures.1 in
    rw (p.1 ∙ ap Err p.2) (record { added = tt; refused = inl c.in_err-put.ensures.refused })

pub returns-then-self-lt-ROWS : goal.returns-then-self-lt-ROWS
returns-then-self-lt-ROWS g c = record { added = (c.in_ok-put.ensures.inserted, c.if-self-lt-ROWS.true); refused = tt }

pub returns-in_err-commit : goal.returns-in_err-commit
returns-in_err-commit g c =
    let p = err_from_is_err_and c.from_residual-in_err-commit.result c.from_residual-in_err-commit.ensures.1 in
    rw (p.1 ∙ ap Err p.2) (record {
      added = tt;
      refused = inr (c.put.new.self, c.in_ok-put.ensures.inserted, c.if-self-lt-ROWS.false, c.in_err-commit.ensures.refused);
    })

pub returns : goal.returns
returns g c = record {
  added = (c.put.new.self, c.in_ok-put.ensures.inserted, c.if-self-lt-ROWS.false, c.in_ok-commit.ensures.safe);
  refused = tt;
}
