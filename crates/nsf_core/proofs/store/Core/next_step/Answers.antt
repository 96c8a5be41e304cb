use Rattle.std.proofs.lemmas.Result.{err_from_is_err_and}
use Rattle.nsf_core.specs.Value.{value_of}
use Rattle.core_parts.proofs.Next.{next_refused}
use Rattle.nsf_core.proofs.Kept.{served_safe}
use Rattle.nsf_core.proofs.store.Core.next_step.Goals as goal

pub returns-in_err-number : goal.returns-in_err-number
returns-in_err-number g c =
    let p = err_from_is_err_and c.from_residual.result c.from_residual.ensures.1 in
    rw (p.1, p.2) (next_refused (value_of c.args.self.now) c.args.txn c.requires _ c.in_err-number.ensures.err)

pub invariant_of-self : goal.invariant_of-self
invariant_of-self g c = record { safe = served_safe _ _ _ _ c.carry_on.ensures c.args.self.now.safe }
