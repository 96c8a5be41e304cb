use Rattle.std.proofs.Common.{List, ap, ◌∙◌}
use Rattle.std.proofs.lemmas.Result.{err_from_is_err_and}
use Rattle.records.specs.ChangeValue.{ChangeValue}
use Rattle.txn_table.specs.Table.{TxnState}
use Rattle.txn_table.proofs.active.ActiveTxn.note.Goals as goal

pub returns-in_err-push : goal.returns-in_err-push
returns-in_err-push g c =
    let s = c.self.inside in
    let p = err_from_is_err_and c.from_residual.result c.from_residual.ensures.1 in
    let state : List ChangeValue → TxnState = λ (changes : List ChangeValue). record {
      changes = changes;
      rows = s.rows.items;
      progress = s.progress;
      reserved = s.reserved;
    } in
    rw p.1 (record { ok = tt; err = ap state c.in_err-push.ensures.items ∙ c.self.view_is; no_memory = p.2 })
