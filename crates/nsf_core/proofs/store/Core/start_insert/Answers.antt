use Rattle.std.proofs.Common.{rules}
use Rattle.std.proofs.lemmas.Result.{err_from_is_err_and}
use Rattle.nsf_core.specs.Value.{value_of}
use Rattle.core_parts.proofs.Inserting.{insert_done, insert_no_memory}
use Rattle.core_parts.proofs.Due.{stays_safe}
use Rattle.nsf_core.proofs.Kept.{on_both, stepped_safe}
use Rattle.nsf_core.proofs.store.Core.start_insert.Goals as goal

pub returns-in_err-rid : goal.returns-in_err-rid
returns-in_err-rid g c = search rules

pub set_first-requires-clause-safe : goal.set_first-requires-clause-safe
set_first-requires-clause-safe g c = c.args.self.now.safe

pub invariant_of-self : goal.invariant_of-self
invariant_of-self g c =
    let e = c.set_first.ensures in
    record {
      safe = stepped_safe c.set_first.result _ _ _ (on_both c.set_first.result _ _ e.ok e.held) e.unchanged
          (λ made. stays_safe _ _ _ _ (insert_done (value_of c.args.self.now) c.args.txn (record { key = c.args.key; body = c.args.body }) c.requires
          c.in_ok-rid.rid c.in_ok-rid.ensures.place c.in_ok-rid.ensures.may _ _ c.next_change-change.ensures made.0 made.1)) c.args.self.now.safe;
    }

pub returns-in_err-set_first : goal.returns-in_err-set_first
returns-in_err-set_first g c =
    let p = err_from_is_err_and c.from_residual-in_err-set_first.result c.from_residual-in_err-set_first.ensures.1 in
    rw (p.1, p.2) (insert_no_memory (value_of c.args.self.now) c.args.txn
    (record { key = c.args.key; body = c.args.body }) c.requires c.in_ok-rid.rid c.in_ok-rid.ensures.place c.in_ok-rid.ensures.may _ _
    c.in_err-set_first.ensures.no_memory c.in_err-set_first.ensures.unchanged)

pub returns : goal.returns
returns g c =
    insert_done (value_of c.args.self.now) c.args.txn (record { key = c.args.key; body = c.args.body }) c.requires c.in_ok-rid.rid
    c.in_ok-rid.ensures.place c.in_ok-rid.ensures.may _ _ c.next_change-change.ensures c.in_ok-set_first.ensures.ok c.in_ok-set_first.ensures.held
