use Rattle.std.proofs.lemmas.Result.{err_from_is_err_and}
use Rattle.nsf_core.specs.Value.{value_of}
use Rattle.core_parts.proofs.Inserting.{insert_fine}
use Rattle.nsf_core.proofs.store.Core.check_insert.Goals as goal

pub returns-in_err-place_for-clause-refused : goal.returns-in_err-place_for-clause-refused
returns-in_err-place_for-clause-refused g c =
    let p = err_from_is_err_and c.from_residual.result c.from_residual.ensures.1 in
    rw (p.1, p.2) (λ row. (c.in_err-place_for.ensures.by_state, c.in_err-place_for.ensures.refused row))

pub returns-clause-fine : goal.returns-clause-fine
returns-clause-fine g c = λ row.
    insert_fine (value_of c.args.self.now) c.args.txn row c.requires _ c.in_ok-place_for.ensures.place c.in_ok-place_for.ensures.may
