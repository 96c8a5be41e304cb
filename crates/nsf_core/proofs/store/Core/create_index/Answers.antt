use Rattle.std.proofs.lemmas.Result.{err_from_is_err_and}
use Rattle.nsf_core.specs.Value.{value_of}
use Rattle.nsf_core.proofs.Creating.{creation_serves, no_creation}
use Rattle.nsf_core.proofs.Kept.{served_safe}
use Rattle.nsf_core.proofs.store.Core.create_index.Goals as goal

pub returns-in_err-may_create : goal.returns-in_err-may_create
returns-in_err-may_create g c =
    let p = err_from_is_err_and c.from_residual.result c.from_residual.ensures.1 in
    rw (p.1, p.2) (no_creation (value_of c.args.self.now) _ c.in_err-may_create.ensures.refused)

pub returns : goal.returns
returns g c =
    let e = c.create.ensures in
    creation_serves (value_of c.args.self.now) c.in_ok-may_create.ensures.absent c.in_ok-may_create.ensures.quiet _ _ e.ok e.run e.left e.ticket e.no_commit
    e.refused e.unchanged

pub invariant_of-self : goal.invariant_of-self
invariant_of-self g c =
    let e = c.create.ensures in
    record {
      safe = served_safe _ _ _ _ (creation_serves (value_of c.args.self.now) c.in_ok-may_create.ensures.absent c.in_ok-may_create.ensures.quiet _ _ e.ok
          e.run e.left e.ticket e.no_commit e.refused e.unchanged) c.args.self.now.safe;
    }
