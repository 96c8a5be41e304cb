use Rattle.std.proofs.Common.{sym}
use Rattle.std.proofs.lemmas.Result.{err_from_is_err_and}
use Rattle.nsf_core.specs.Value.{value_of}
use Rattle.core_parts.proofs.Undoing.{undo_refused}
use Rattle.nsf_core.proofs.Kept.{served_safe}
use Rattle.nsf_core.proofs.store.Core.undo_step.Goals as goal

pub returns-in_err-number : goal.returns-in_err-number
returns-in_err-number g c =
    let p = err_from_is_err_and c.from_residual.result c.from_residual.ensures.1 in
    rw (p.1, p.2) (undo_refused (value_of c.args.self.now) c.args.txn _ (sym c.in-Some.ensures) _ c.in_err-number.ensures.err)

pub invariant_of-self : goal.invariant_of-self
invariant_of-self g c = record { safe = served_safe _ _ _ _ c.undo_nothing.ensures c.args.self.now.safe }

pub invariant_of-self-2 : goal.invariant_of-self-2
invariant_of-self-2 g c = record { safe = served_safe _ _ _ _ c.take_back.ensures c.args.self.now.safe }
