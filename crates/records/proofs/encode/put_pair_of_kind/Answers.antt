use Rattle.std.proofs.Common.{append_assoc}
use Rattle.std.proofs.lemmas.Result.{err_from_is_err_and, IfOk-equal}
use Rattle.records.proofs.Kept.{kept_more}
use Rattle.records.proofs.encode.put_pair_of_kind.Goals as goal

pub returns : goal.returns
returns g c =
    let done = c.put_pair.ensures in
    record {
      ok = IfOk-equal c.put_pair.result _ _ _ done.ok (simp (c.in_ok-put_byte.ensures.ok, append_assoc));
      kept = kept_more _ _ _ c.put_byte.ensures.kept done.kept;
    }

pub returns-in_err-put_byte : goal.returns-in_err-put_byte
returns-in_err-put_byte g c =
    rw (err_from_is_err_and c.from_residual.result c.from_residual.ensures.1).1
    (record { ok = tt; kept = c.put_byte.ensures.kept })
