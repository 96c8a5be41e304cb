use Rattle.std.proofs.lemmas.Result.{err_from_is_err_and}
use Rattle.nsf_core.specs.Value.{value_of}
use Rattle.core_parts.proofs.Checking.{unrecorded_by_state}
use Rattle.core_parts.proofs.Leaving.{commit_refused, commit_wants}
use Rattle.std.proofs.Common.{refl}
use Rattle.nsf_core.proofs.store.Core.check_commit.Goals as goal

pub returns-in_err-number_for-clause-refused : goal.returns-in_err-number_for-clause-refused
returns-in_err-number_for-clause-refused g c =
    let p = err_from_is_err_and c.from_residual.result c.from_residual.ensures.1 in
    let v = value_of c.args.self.now in
    rw (p.1, p.2) (unrecorded_by_state v _ c.args.txn c.in_err-number_for.ensures.err, commit_refused v c.args.txn c.requires _ c.in_err-number_for.ensures.err)

pub returns-clause-fine : goal.returns-clause-fine
returns-clause-fine g c = commit_wants (value_of c.args.self.now) c.args.txn c.in_ok-number_for.ensures.has c.requires _ _ refl refl
