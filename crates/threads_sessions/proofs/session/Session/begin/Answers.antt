use Rattle.std.proofs.Common.{map, ap, sym, subst, arith}
use Rattle.std.proofs.lemmas.Grind.{common_steps}
use Rattle.std.proofs.lemmas.Result.{err_from_is_err_and}
use Rattle.record_values.specs.declared.error.Error.{Error}
use Rattle.core_model.specs.Events.{Begin, Refused}
use Rattle.core_parts.specs.View.{Serves}
use Rattle.nsf_core.specs.Value.{value_of}
use Rattle.threads_sessions.specs.Active.{active_value}
use Rattle.threads_sessions.proofs.Shown.{same_shown}
use Rattle.threads_sessions.proofs.session.Session.begin.Goals as goal

pub returns-in_err-check_begin : goal.returns-in_err-check_begin
returns-in_err-check_begin g c =
    let p = err_from_is_err_and c.from_residual.result c.from_residual.ensures.1 in
    rw (p.1, p.2) (record {
      served = c.in_err-check_begin.ensures.refused.1;
      ok = tt;
      unchanged = same_shown c.args.self.now 0 _ _ c.self.inside.active.items c.self.view_is c.reserve_txn.new.active.items
          (ap (map active_value) c.reserve_txn.ensures.same);
    })

pub returns-in-Err : goal.returns-in-Err
returns-in-Err g c =
    let v = value_of c.args.core.now in
    record {
      served = subst (λ (e : Error). Serves v Begin (Refused e) v) (sym c.in-Err.ensures.no_memory) c.in_ok-check_begin.ensures.fine;
      ok = tt;
      unchanged = same_shown c.args.self.now 0 _ _ c.self.inside.active.items c.self.view_is c.reserve_txn.new.active.items
          (ap (map active_value) c.reserve_txn.ensures.same);
    }

pub returns-in_err-txn : goal.returns-in_err-txn
returns-in_err-txn g c =
    let p = err_from_is_err_and c.from_residual-in_err-txn.result c.from_residual-in_err-txn.ensures.1 in
    rw (p.1, p.2) (record {
      served = c.in_err-txn.ensures;
      ok = tt;
      unchanged = same_shown c.args.self.now 0 _ _ c.self.inside.active.items c.self.view_is c.reserve_txn.new.active.items
          (ap (map active_value) c.reserve_txn.ensures.same);
    })

pub returns-clause-ok : goal.returns-clause-ok
returns-clause-ok g c = grind (arith, common_steps)
