use Rattle.std.proofs.Common.{refl, rules, sym, true≢false, ◌∙◌, arith, subst}
use Rattle.std.proofs.lemmas.Result.{err_from_is_err_and}
use Rattle.record_values.specs.declared.error.Error.{Error}
use Rattle.core_model.specs.Events.{Delete, Refused}
use Rattle.core_parts.specs.View.{Serves}
use Rattle.nsf_core.specs.Value.{value_of}
use Rattle.threads_sessions.proofs.Shown.{is_there, not_there, one_shown, same_shown}
use Rattle.threads_sessions.proofs.session.Session.delete.Goals as goal

pub returns-in_default : goal.returns-in_default
returns-in_default g c =
    let away = not_there c.args.self.now c.args.txn _ _ c.self.inside.active.items c.self.view_is
    c.deref.result.now c.deref.ensures.value c.in_default.ensures.found in
    record { foreign = λ none. (refl, refl); served = λ mine. absurd (true≢false (sym mine ∙ away)); ok = tt; unchanged = refl }

pub reserve_row-requires : goal.reserve_row-requires
reserve_row-requires g c = omega (arith, c.in-Some.ensures.within, c.deref.ensures.len)

pub check_change-requires : goal.check_change-requires
check_change-requires g c =
    c.requires (is_there c.args.self.now c.args.txn _ _ c.self.inside.active.items c.self.view_is
    c.deref.result.now c.deref.ensures.value c.in-Some.i c.in-Some.ensures.found)

pub returns-in_err-check_change : goal.returns-in_err-check_change
returns-in_err-check_change g c =
    let p = err_from_is_err_and c.from_residual.result c.from_residual.ensures.1 in
    let there = is_there c.args.self.now c.args.txn _ _ c.self.inside.active.items c.self.view_is
    c.deref.result.now c.deref.ensures.value c.in-Some.i c.in-Some.ensures.found in
    rw (p.1, p.2) (record {
      foreign = λ none. absurd (true≢false (sym there ∙ none));
      served = λ mine. c.in_err-check_change.ensures.refused_delete.1;
      ok = tt;
      unchanged = same_shown c.args.self.now c.args.txn _ _ c.self.inside.active.items c.self.view_is c.reserve_row.new.active.items c.reserve_row.ensures.same;
    })

pub returns-in-Err : goal.returns-in-Err
returns-in-Err g c =
    let there = is_there c.args.self.now c.args.txn _ _ c.self.inside.active.items c.self.view_is
    c.deref.result.now c.deref.ensures.value c.in-Some.i c.in-Some.ensures.found in
    let v = value_of c.args.core.now in
    record {
      foreign = λ none. absurd (true≢false (sym there ∙ none));
      served = λ mine. subst (λ (e : Error). Serves v (Delete c.args.txn c.args.rid) (Refused e) v) (sym c.in-Err.ensures.no_memory)
          c.in_ok-check_change.ensures.fine_delete;
      ok = tt;
      unchanged = same_shown c.args.self.now c.args.txn _ _ c.self.inside.active.items c.self.view_is c.reserve_row.new.active.items c.reserve_row.ensures.same;
    }

pub note_change-requires : goal.note_change-requires
note_change-requires g c = c.in_default-reserve_row.ensures.room

pub returns-clause-foreign : goal.returns-clause-foreign
returns-clause-foreign g c =
    λ none. absurd (true≢false (sym (is_there c.args.self.now c.args.txn _ _ c.self.inside.active.items c.self.view_is
    c.deref.result.now c.deref.ensures.value c.in-Some.i c.in-Some.ensures.found) ∙ none))

pub returns-clause-served : goal.returns-clause-served
returns-clause-served g c = search rules

pub returns-clause-ok : goal.returns-clause-ok
returns-clause-ok g c =
    one_shown c.args.self.now c.args.txn _ _ c.self.inside.active.items c.self.view_is
    c.deref.result.now c.deref.ensures.value c.in-Some.i c.in-Some.ensures.found
    _ c.reserve_row.new.active.items c.note_change.new.active.items c.note_change.ensures c.reserve_row.ensures.same
