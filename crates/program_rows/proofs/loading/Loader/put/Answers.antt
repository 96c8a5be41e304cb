use Rattle.std.proofs.Common.{◌∙◌, ap, Err, inl, inr, refl}
use Rattle.std.proofs.lemmas.Result.{err_from_is_err_and}
use Rattle.program_rows.proofs.loading.Loader.put.Goals as goal

pub returns-in_err-txn : goal.returns-in_err-txn
returns-in_err-txn g c =
    let p = err_from_is_err_and c.from_residual.result c.from_residual.ensures.1 in
    rw (p.1 ∙ ap Err p.2) (record { inserted = tt; refused = inl c.in_err-txn.ensures.refused })

pub returns-in_err-insert : goal.returns-in_err-insert
returns-in_err-insert g c =
    let p = err_from_is_err_and c.from_residual-in_err-insert.result c.from_residual-in_err-insert.ensures.1 in
    rw (p.1 ∙ ap Err p.2) (record {
      inserted = tt;
      refused = inr (record {
        txn = c.in_ok-txn.txn;
        mid = c.open_txn.new.self;
        opened = c.in_ok-txn.ensures.opened;
        refused = c.in_err-insert.ensures.refused;
        same = refl;
      });
    })

pub returns : goal.returns
returns g c = record {
  inserted = record {
    txn = c.in_ok-txn.txn;
    mid = c.open_txn.new.self;
    opened = c.in_ok-txn.ensures.opened;
    granted = c.in_ok-insert.ensures.inserted;
    counted = rw c.saturating_add-self.ensures refl;
  };
  refused = tt;
}
