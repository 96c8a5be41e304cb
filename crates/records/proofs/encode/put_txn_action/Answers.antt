use Rattle.std.proofs.Common.{append_assoc}
use Rattle.std.proofs.lemmas.Result.{err_from_is_err_and, IfOk-equal}
use Rattle.records.proofs.Kept.{kept_more}
use Rattle.records.proofs.encode.put_txn_action.Goals as goal

pub returns-in-Forward : goal.returns-in-Forward
returns-in-Forward g c =
    let done = c.put_change_of_kind.ensures in
    record { ok = IfOk-equal c.put_change_of_kind.result _ _ _ done.ok (rw (c.in-Forward.is, c.forward_kind.ensures)); kept = done.kept }

pub returns-in-Commit : goal.returns-in-Commit
returns-in-Commit g c = record { ok = IfOk-equal c.put_byte.result _ _ _ c.put_byte.ensures.ok (rw c.in-Commit.is); kept = c.put_byte.ensures.kept }

pub returns-in-End : goal.returns-in-End
returns-in-End g c =
    let done = c.put_byte-in-End.ensures in
    record { ok = IfOk-equal c.put_byte-in-End.result _ _ _ done.ok (rw c.in-End.is); kept = done.kept }

pub returns-in_ok-put_change_of_kind-in-Undo : goal.returns-in_ok-put_change_of_kind-in-Undo
returns-in_ok-put_change_of_kind-in-Undo g c =
    let done = c.put_flag.ensures in
    record {
      ok = rw c.in-Undo.is
          (IfOk-equal c.put_flag.result _ _ _ done.ok (simp (c.in_ok-put_change_of_kind-in-Undo.ensures.ok, c.undo_kind.ensures, append_assoc)));
      kept = kept_more _ _ _ c.put_change_of_kind-in-Undo.ensures.kept done.kept;
    }

pub returns-in_err-put_change_of_kind-in-Undo : goal.returns-in_err-put_change_of_kind-in-Undo
returns-in_err-put_change_of_kind-in-Undo g c =
    rw (err_from_is_err_and c.from_residual.result c.from_residual.ensures.1).1 (record { ok = tt; kept = c.put_change_of_kind-in-Undo.ensures.kept })
