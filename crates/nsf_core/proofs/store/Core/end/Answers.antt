use Rattle.std.proofs.lemmas.Result.{err_from_is_err_and}
use Rattle.nsf_core.specs.Value.{value_of}
use Rattle.core_parts.proofs.Leaving.{end_refused, end_served, end_wants}
use Rattle.core_parts.proofs.Due.{stays_safe}
use Rattle.nsf_core.proofs.Kept.{stepped_safe}
use Rattle.nsf_core.proofs.store.Core.end.Goals as goal

pub returns-in_err-number : goal.returns-in_err-number
returns-in_err-number g c =
    let p = err_from_is_err_and c.from_residual.result c.from_residual.ensures.1 in
    rw (p.1, p.2) (end_refused (value_of c.args.self.now) c.args.txn c.requires _ c.in_err-number.ensures.err)

pub invariant_of-self : goal.invariant_of-self
invariant_of-self g c = record {
  safe = stepped_safe c.leave.result _ _ _ c.leave.ensures.ok c.leave.ensures.unchanged (λ made. stays_safe _ _ _ _
      (end_served (value_of c.args.self.now) c.args.txn c.in_ok-number.ensures.has c.requires c.leave.ensures.sound _ made)) c.args.self.now.safe;
}

pub returns-in_err-leave : goal.returns-in_err-leave
returns-in_err-leave g c =
    let p = err_from_is_err_and c.from_residual-in_err-leave.result c.from_residual-in_err-leave.ensures.1 in
    rw (p.1, p.2) (end_wants (value_of c.args.self.now) c.args.txn c.in_ok-number.ensures.has c.requires _ _ c.in_err-leave.ensures.no_memory
    c.in_err-leave.ensures.unchanged)

pub returns : goal.returns
returns g c = end_served (value_of c.args.self.now) c.args.txn c.in_ok-number.ensures.has c.requires c.in_ok-leave.ensures.sound _
    c.in_ok-leave.ensures.ok
