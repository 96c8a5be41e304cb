use Rattle.std.proofs.lemmas.Result.{err_from_is_err_and}
use Rattle.nsf_core.specs.Value.{value_of}
use Rattle.core_parts.proofs.Changing.{change_checked, change_fine, deletes, updates}
use Rattle.nsf_core.proofs.store.Core.check_change.Goals as goal

pub returns-in_err-row_for-clause-refused_delete : goal.returns-in_err-row_for-clause-refused_delete
returns-in_err-row_for-clause-refused_delete g c =
    let p = err_from_is_err_and c.from_residual.result c.from_residual.ensures.1 in
    rw (p.1, p.2) (change_checked (value_of c.args.self.now) c.args.txn c.args.rid _ _
    (deletes c.args.txn c.args.rid) c.requires _ c.in_err-row_for.ensures.err)

pub returns-in_err-row_for-clause-refused_update : goal.returns-in_err-row_for-clause-refused_update
returns-in_err-row_for-clause-refused_update g c =
    let p = err_from_is_err_and c.from_residual.result c.from_residual.ensures.1 in
    rw (p.1, p.2) (λ row. change_checked (value_of c.args.self.now) c.args.txn c.args.rid _ _
    (updates c.args.txn c.args.rid row) c.requires _ c.in_err-row_for.ensures.err)

pub returns-clause-fine_delete : goal.returns-clause-fine_delete
returns-clause-fine_delete g c = change_fine (value_of c.args.self.now) c.args.txn c.args.rid _ _
    (deletes c.args.txn c.args.rid) c.requires c.in_ok-row_for.ensures.may _ c.in_ok-row_for.ensures.found

pub returns-clause-fine_update : goal.returns-clause-fine_update
returns-clause-fine_update g c = λ row. change_fine (value_of c.args.self.now) c.args.txn c.args.rid _ _
    (updates c.args.txn c.args.rid row) c.requires c.in_ok-row_for.ensures.may _ c.in_ok-row_for.ensures.found
