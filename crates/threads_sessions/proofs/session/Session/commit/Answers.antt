use Rattle.std.proofs.Common.{refl, sym, subst, true≢false, ◌∙◌, arith}
use Rattle.std.proofs.lemmas.Result.{err_from_is_err_and}
use Rattle.record_values.specs.declared.error.Error.{Error}
use Rattle.core_model.specs.Events.{Commit, Refused}
use Rattle.core_parts.specs.View.{Serves}
use Rattle.nsf_core.specs.Value.{value_of}
use Rattle.threads_sessions.proofs.Shown.{at_place, committed_shown, is_there, not_there, same_history}
use Rattle.threads_sessions.proofs.session.Session.commit.Goals as goal

pub returns-in_default : goal.returns-in_default
returns-in_default g c =
    let away = not_there c.args.self.now c.args.txn _ _ c.self.inside.active.items c.self.view_is
    c.deref.result.now c.deref.ensures.value c.in_default.ensures.found in
    record { foreign = λ none. (refl, refl); served = λ mine. absurd (true≢false (sym mine ∙ away)); ok = tt; unchanged = refl }

pub check_commit-requires : goal.check_commit-requires
check_commit-requires g c =
    c.requires (is_there c.args.self.now c.args.txn _ _ c.self.inside.active.items c.self.view_is
    c.deref.result.now c.deref.ensures.value c.in-Some.i c.in-Some.ensures.found)

pub returns-in_err-check_commit : goal.returns-in_err-check_commit
returns-in_err-check_commit g c =
    let p = err_from_is_err_and c.from_residual.result c.from_residual.ensures.1 in
    let there = is_there c.args.self.now c.args.txn _ _ c.self.inside.active.items c.self.view_is
    c.deref.result.now c.deref.ensures.value c.in-Some.i c.in-Some.ensures.found in
    rw (p.1, p.2) (record {
      foreign = λ none. absurd (true≢false (sym there ∙ none));
      served = λ mine. c.in_err-check_commit.ensures.refused.1;
      ok = tt;
      unchanged = same_history c.args.self.now _ _ _ _ _ c.self.view_is c.reserve.ensures.commits c.reserve.ensures.turns;
    })

pub returns-in-Err : goal.returns-in-Err
returns-in-Err g c =
    let there = is_there c.args.self.now c.args.txn _ _ c.self.inside.active.items c.self.view_is
    c.deref.result.now c.deref.ensures.value c.in-Some.i c.in-Some.ensures.found in
    let v = value_of c.args.core.now in
    record {
      foreign = λ none. absurd (true≢false (sym there ∙ none));
      served = λ mine. subst (λ (e : Error). Serves v (Commit c.args.txn) (Refused e) v)
          (sym c.in-Err.ensures.no_memory) c.in_ok-check_commit.ensures.fine;
      ok = tt;
      unchanged = same_history c.args.self.now _ _ _ _ _ c.self.view_is c.reserve.ensures.commits c.reserve.ensures.turns;
    }

pub commit-requires : goal.commit-requires
commit-requires g c =
    c.requires (is_there c.args.self.now c.args.txn _ _ c.self.inside.active.items c.self.view_is
    c.deref.result.now c.deref.ensures.value c.in-Some.i c.in-Some.ensures.found)

pub returns-in_err-ticket : goal.returns-in_err-ticket
returns-in_err-ticket g c =
    let p = err_from_is_err_and c.from_residual-in_err-ticket.result c.from_residual-in_err-ticket.ensures.1 in
    let there = is_there c.args.self.now c.args.txn _ _ c.self.inside.active.items c.self.view_is
    c.deref.result.now c.deref.ensures.value c.in-Some.i c.in-Some.ensures.found in
    rw (p.1, p.2) (record {
      foreign = λ none. absurd (true≢false (sym there ∙ none));
      served = λ mine. c.in_err-ticket.ensures.serves;
      ok = tt;
      unchanged = same_history c.args.self.now _ _ _ _ _ c.self.view_is c.reserve.ensures.commits c.reserve.ensures.turns;
    })

pub take_out-writes-requires : goal.take_out-writes-requires
take_out-writes-requires g c = record {
  within = omega (arith, c.in-Some.ensures.within, c.deref.ensures.len);
  place = at_place c.args.self.now c.args.txn _ _ c.self.inside.active.items c.self.view_is
      c.deref.result.now c.deref.ensures.value c.in-Some.i c.in-Some.ensures.found;
}

pub push-requires : goal.push-requires
push-requires g c = c.in_default-reserve.ensures.room

pub returns : goal.returns
returns g c =
    let there = is_there c.args.self.now c.args.txn _ _ c.self.inside.active.items c.self.view_is
    c.deref.result.now c.deref.ensures.value c.in-Some.i c.in-Some.ensures.found in
    record {
      foreign = λ none. absurd (true≢false (sym there ∙ none));
      served = λ mine. c.in_ok-ticket.ensures.serves;
      ok = committed_shown c.args.self.now c.args.txn _ _ c.self.inside.active.items c.self.view_is c.in_ok-ticket.ticket
          c.take_out-writes.result.items _ _ _ c.take_out-writes.new.active.items
          c.push.ensures.commits c.reserve.ensures.commits (c.push.ensures.turns ∙ c.reserve.ensures.turns) c.take_out-writes.ensures.rows
          c.take_out-writes.ensures.left;
      unchanged = tt;
    }
