use Rattle.std.proofs.lemmas.Result.{err_from_is_err_and}
use Rattle.nsf_core.specs.Value.{value_of}
use Rattle.core_parts.proofs.Changing.{change_done, change_no_memory, change_refused, deletes}
use Rattle.core_parts.proofs.Due.{stays_safe}
use Rattle.nsf_core.proofs.Kept.{on_both, stepped_safe}
use Rattle.nsf_core.proofs.store.Core.start_delete.Goals as goal

pub returns-in_err-old : goal.returns-in_err-old
returns-in_err-old g c =
    let p = err_from_is_err_and c.from_residual.result c.from_residual.ensures.1 in
    rw (p.1, p.2) (change_refused (value_of c.args.self.now) c.args.txn c.args.rid _ _
    (deletes c.args.txn c.args.rid) c.requires _ c.in_err-old.ensures.err)

pub invariant_of-self : goal.invariant_of-self
invariant_of-self g c =
    let e = c.start.ensures in
    record {
      safe = stepped_safe c.start.result _ _ _ (on_both c.start.result _ _ e.ok e.held) e.unchanged
          (λ made. stays_safe _ _ _ _ (change_done (value_of c.args.self.now) c.args.txn c.args.rid _ _
          (deletes c.args.txn c.args.rid) c.requires c.in_ok-old.ensures.may _
          c.in_ok-old.ensures.found _ _ c.next_change-change.ensures made.0 made.1)) c.args.self.now.safe;
    }

pub returns-in_err-start : goal.returns-in_err-start
returns-in_err-start g c =
    let p = err_from_is_err_and c.from_residual-in_err-start.result c.from_residual-in_err-start.ensures.1 in
    rw (p.1, p.2) (change_no_memory (value_of c.args.self.now) c.args.txn c.args.rid _ _
    (deletes c.args.txn c.args.rid) c.requires c.in_ok-old.ensures.may _
    c.in_ok-old.ensures.found _ _ c.in_err-start.ensures.no_memory c.in_err-start.ensures.unchanged)

pub returns : goal.returns
returns g c = change_done (value_of c.args.self.now) c.args.txn c.args.rid _ _
    (deletes c.args.txn c.args.rid) c.requires c.in_ok-old.ensures.may _
    c.in_ok-old.ensures.found _ _ c.next_change-change.ensures c.in_ok-start.ensures.ok c.in_ok-start.ensures.held
