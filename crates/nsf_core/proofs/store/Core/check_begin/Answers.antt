use Rattle.std.proofs.lemmas.Result.{err_from_is_err_and}
use Rattle.nsf_core.specs.Value.{value_of}
use Rattle.nsf_core.proofs.Beginning.{begin_fine, begin_refused}
use Rattle.nsf_core.proofs.store.Core.check_begin.Goals as goal

pub returns-in_err-may_begin-clause-refused : goal.returns-in_err-may_begin-clause-refused
returns-in_err-may_begin-clause-refused g c =
    let p = err_from_is_err_and c.from_residual.result c.from_residual.ensures.1 in
    rw (p.1, p.2) (begin_refused (value_of c.args.self.now) _ c.in_err-may_begin.ensures.refused)

pub returns-clause-fine : goal.returns-clause-fine
returns-clause-fine g c = begin_fine (value_of c.args.self.now) c.in_ok-may_begin.ensures.room
