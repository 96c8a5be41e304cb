use Rattle.std.proofs.Common.{append_assoc}
use Rattle.std.proofs.lemmas.Result.{err_from_is_err_and, IfOk-equal}
use Rattle.records.proofs.Kept.{kept_more}
use Rattle.records.proofs.encode.put_record.Goals as goal

pub returns : goal.returns
returns g c =
    let done = c.put_fields.ensures in
    record {
      ok = rw (← c.logged.view_is) (IfOk-equal c.put_fields.result _ _ _ done.ok
          (simp (c.in_ok-put_u64-2.ensures.ok, c.in_ok-put_u64.ensures.ok, c.get.ensures.value, c.txn_number.ensures, append_assoc)));
      kept = kept_more _ _ _ (kept_more _ _ _ c.put_u64.ensures.kept c.put_u64-2.ensures.kept) done.kept;
    }

pub returns-in_err-put_u64 : goal.returns-in_err-put_u64
returns-in_err-put_u64 g c =
    rw (err_from_is_err_and c.from_residual.result c.from_residual.ensures.1).1
    (record { ok = tt; kept = c.put_u64.ensures.kept })

pub returns-in_err-put_u64-2 : goal.returns-in_err-put_u64-2
returns-in_err-put_u64-2 g c =
    rw (err_from_is_err_and c.from_residual-in_err-put_u64-2.result c.from_residual-in_err-put_u64-2.ensures.1).1
    (record { ok = tt; kept = kept_more _ _ _ c.put_u64.ensures.kept c.put_u64-2.ensures.kept })
