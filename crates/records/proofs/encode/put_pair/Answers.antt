use Rattle.std.proofs.Common.{append_assoc}
use Rattle.std.proofs.lemmas.Result.{err_from_is_err_and, IfOk-equal}
use Rattle.records.proofs.Kept.{kept_more}
use Rattle.records.proofs.encode.put_pair.Goals as goal

pub returns : goal.returns
returns g c =
    let done = c.put_rid.ensures in
    record {
      ok = IfOk-equal c.put_rid.result _ _ _ done.ok (simp (c.in_ok-put_short.ensures.ok, c.as_slice.ensures.value, append_assoc));
      kept = kept_more _ _ _ c.put_short.ensures.kept done.kept;
    }

pub returns-in_err-put_short : goal.returns-in_err-put_short
returns-in_err-put_short g c =
    rw (err_from_is_err_and c.from_residual.result c.from_residual.ensures.1).1
    (record { ok = tt; kept = c.put_short.ensures.kept })
