use Rattle.std.proofs.Common.{append_assoc}
use Rattle.std.proofs.lemmas.Result.{err_from_is_err_and, IfOk-equal}
use Rattle.records.proofs.Kept.{kept_more}
use Rattle.records.proofs.encode.put_rows.Goals as goal

pub returns-in_ok-put_no_row-in-Inserted : goal.returns-in_ok-put_no_row-in-Inserted
returns-in_ok-put_no_row-in-Inserted g c =
    let done = c.put_row.ensures in
    record {
      ok = rw c.in-Inserted.is (IfOk-equal c.put_row.result _ _ _ done.ok (simp (c.in_ok-put_no_row-in-Inserted.ensures.ok, append_assoc)));
      kept = kept_more _ _ _ c.put_no_row.ensures.kept done.kept;
    }

pub returns-in_err-put_no_row-in-Inserted : goal.returns-in_err-put_no_row-in-Inserted
returns-in_err-put_no_row-in-Inserted g c =
    rw (err_from_is_err_and c.from_residual.result c.from_residual.ensures.1).1 (record { ok = tt; kept = c.put_no_row.ensures.kept })

pub returns-in_ok-put_row-in-Deleted : goal.returns-in_ok-put_row-in-Deleted
returns-in_ok-put_row-in-Deleted g c =
    let done = c.put_no_row-in-Deleted.ensures in
    record {
      ok = rw c.in-Deleted.is (IfOk-equal c.put_no_row-in-Deleted.result _ _ _ done.ok (simp (c.in_ok-put_row-in-Deleted.ensures.ok, append_assoc)));
      kept = kept_more _ _ _ c.put_row-in-Deleted.ensures.kept done.kept;
    }

pub returns-in_err-put_row-in-Deleted : goal.returns-in_err-put_row-in-Deleted
returns-in_err-put_row-in-Deleted g c =
    rw (err_from_is_err_and c.from_residual-in_err-put_row-in-Deleted.result c.from_residual-in_err-put_row-in-Deleted.ensures.1).1
    (record { ok = tt; kept = c.put_row-in-Deleted.ensures.kept })

pub returns-in_ok-put_row-in-Updated : goal.returns-in_ok-put_row-in-Updated
returns-in_ok-put_row-in-Updated g c =
    let done = c.put_row-in-Updated-2.ensures in
    record {
      ok = rw c.in-Updated.is (IfOk-equal c.put_row-in-Updated-2.result _ _ _ done.ok (simp (c.in_ok-put_row-in-Updated.ensures.ok, append_assoc)));
      kept = kept_more _ _ _ c.put_row-in-Updated.ensures.kept done.kept;
    }

pub returns-in_err-put_row-in-Updated : goal.returns-in_err-put_row-in-Updated
returns-in_err-put_row-in-Updated g c =
    rw (err_from_is_err_and c.from_residual-in_err-put_row-in-Updated.result c.from_residual-in_err-put_row-in-Updated.ensures.1).1
    (record { ok = tt; kept = c.put_row-in-Updated.ensures.kept })
