use Rattle.std.proofs.Common.{ap, ◌∙◌}
use Rattle.std.proofs.lemmas.Result.{err_from_is_err_and}
use Rattle.records.specs.declared.record.TxnAction.TheVariants.{Commit}
use Rattle.core_parts.specs.View.{CoreValue}
use Rattle.nsf_core.specs.Value.{value_of}
use Rattle.core_parts.specs.Private.{ended}
use Rattle.core_parts.proofs.Leaving.{commit_refused, commit_served, commit_wants}
use Rattle.nsf_core.proofs.Kept.{kept_safe, served_safe}
use Rattle.nsf_core.proofs.store.Core.commit.Goals as goal

pub returns-in_err-record-clause-serves : goal.returns-in_err-record-clause-serves
returns-in_err-record-clause-serves g c =
    let p = err_from_is_err_and c.from_residual.result c.from_residual.ensures.1 in
    rw (p.1, p.2) (commit_refused (value_of c.args.self.now) c.args.txn c.requires _ c.in_err-record.ensures.err)

pub invariant_of-self : goal.invariant_of-self
invariant_of-self g c = record { safe = kept_safe _ _ c.in_err-leave.ensures.unchanged c.args.self.now.safe }

pub returns-in_err-leave-clause-serves : goal.returns-in_err-leave-clause-serves
returns-in_err-leave-clause-serves g c =
    let p = err_from_is_err_and c.from_residual-in_err-leave.result c.from_residual-in_err-leave.ensures.1 in
    rw (p.1, p.2) (commit_wants (value_of c.args.self.now) c.args.txn c.in_ok-record.ensures.has c.requires _ _ c.in_err-leave.ensures.no_memory
    c.in_err-leave.ensures.unchanged)

pub returns-clause-serves : goal.returns-clause-serves
returns-clause-serves g c =
    let v : CoreValue = value_of c.args.self.now in
    commit_served v c.args.txn c.in_ok-record.ensures.has c.requires c.in_ok-leave.ensures.sound _ _ _ c.in_ok-record.ensures.number
    c.next_commit-commit.ensures
    (ap (λ (w : CoreValue). record w { commits = c.next_commit-commit.result }) c.in_ok-leave.ensures.ok
    ∙ ap (λ n. record (ended v c.args.txn Commit) { commits = n }) c.next_commit-commit.ensures)

pub invariant_of-self-2 : goal.invariant_of-self-2
invariant_of-self-2 g c =
    let v : CoreValue = value_of c.args.self.now in
    record {
      safe = served_safe _ _ _ _ (commit_served v c.args.txn c.in_ok-record.ensures.has c.requires c.in_ok-leave.ensures.sound _ _ _
          c.in_ok-record.ensures.number c.next_commit-commit.ensures
          (ap (λ (w : CoreValue). record w { commits = c.next_commit-commit.result }) c.in_ok-leave.ensures.ok
          ∙ ap (λ n. record (ended v c.args.txn Commit) { commits = n }) c.next_commit-commit.ensures)) c.args.self.now.safe;
    }
