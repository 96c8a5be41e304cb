use Rattle.std.proofs.lemmas.Result.{err_from_is_err_and}
use Rattle.nsf_core.specs.Value.{value_of}
use Rattle.nsf_core.proofs.Dropping.{dropping_serves, no_dropping}
use Rattle.nsf_core.proofs.Kept.{served_safe}
use Rattle.nsf_core.proofs.store.Core.detach_index.Goals as goal

pub returns-in_err-may_drop-clause-serves : goal.returns-in_err-may_drop-clause-serves
returns-in_err-may_drop-clause-serves g c =
    let p = err_from_is_err_and c.from_residual.result c.from_residual.ensures.1 in
    rw (p.1, p.2) (no_dropping (value_of c.args.self.now) _ c.in_err-may_drop.ensures.refused)

pub returns-clause-serves : goal.returns-clause-serves
returns-clause-serves g c =
    let e = c.take_away.ensures in
    dropping_serves (value_of c.args.self.now) c.in_ok-may_drop.ensures.there c.in_ok-may_drop.ensures.quiet _ _ e.ok e.run e.left e.ticket e.no_commit
    e.refused e.unchanged

pub invariant_of-self : goal.invariant_of-self
invariant_of-self g c =
    let e = c.take_away.ensures in
    record {
      safe = served_safe _ _ _ _ (dropping_serves (value_of c.args.self.now) c.in_ok-may_drop.ensures.there c.in_ok-may_drop.ensures.quiet _ _ e.ok e.run
          e.left e.ticket e.no_commit e.refused e.unchanged) c.args.self.now.safe;
    }
