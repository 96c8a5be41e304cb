use Rattle.std.proofs.Common.{append_assoc, rules}
use Rattle.std.proofs.lemmas.Result.{err_from_is_err_and, IfOk-equal}
use Rattle.records.proofs.Kept.{kept_more}
use Rattle.records.proofs.encode.put_change.Goals as goal

pub returns : goal.returns
returns g c =
    let done = c.put_rows.ensures in
    record {
      ok = IfOk-equal c.put_rows.result _ _ _ done.ok (search (rules, append_assoc));
      kept = kept_more _ _ _ (kept_more _ _ _ c.put_byte.ensures.kept c.put_rid.ensures.kept) done.kept;
    }

pub returns-in_err-put_byte : goal.returns-in_err-put_byte
returns-in_err-put_byte g c =
    rw (err_from_is_err_and c.from_residual.result c.from_residual.ensures.1).1
    (record { ok = tt; kept = c.put_byte.ensures.kept })

pub returns-in_err-put_rid : goal.returns-in_err-put_rid
returns-in_err-put_rid g c =
    rw (err_from_is_err_and c.from_residual-in_err-put_rid.result c.from_residual-in_err-put_rid.ensures.1).1
    (record { ok = tt; kept = kept_more _ _ _ c.put_byte.ensures.kept c.put_rid.ensures.kept })
