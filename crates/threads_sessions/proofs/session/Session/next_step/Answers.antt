use Rattle.std.proofs.Common.{refl, sym, true≢false, ◌∙◌, arith}
use Rattle.std.proofs.lemmas.Result.{err_from_is_err_and}
use Rattle.nsf_core.specs.Value.{value_of}
use Rattle.threads_sessions.specs.Steps.{step_seen}
use Rattle.threads_sessions.proofs.Shown.{is_there, not_there, one_shown}
use Rattle.threads_sessions.proofs.session.Session.next_step.Goals as goal

pub returns-in_default : goal.returns-in_default
returns-in_default g c =
    let away = not_there c.args.self.now c.args.txn _ _ c.self.inside.active.items c.self.view_is
    c.deref.result.now c.deref.ensures.value c.in_default.ensures.found in
    record { foreign = λ none. (refl, refl); served = λ mine. absurd (true≢false (sym mine ∙ away)); ok = tt; unchanged = refl }

pub next_step-requires : goal.next_step-requires
next_step-requires g c =
    c.requires (is_there c.args.self.now c.args.txn _ _ c.self.inside.active.items c.self.view_is
    c.deref.result.now c.deref.ensures.value c.in-Some.i c.in-Some.ensures.found)

pub returns-in_err-next_step : goal.returns-in_err-next_step
returns-in_err-next_step g c =
    let p = err_from_is_err_and c.from_residual.result c.from_residual.ensures.1 in
    let there = is_there c.args.self.now c.args.txn _ _ c.self.inside.active.items c.self.view_is
    c.deref.result.now c.deref.ensures.value c.in-Some.i c.in-Some.ensures.found in
    rw (p.1, p.2) (record {
      foreign = λ none. absurd (true≢false (sym there ∙ none));
      served = λ mine. c.in_err-next_step.ensures;
      ok = tt;
      unchanged = refl;
    })

pub note_step-requires : goal.note_step-requires
note_step-requires g c = omega (arith, c.in-Some.ensures.within, c.deref.ensures.len)

pub returns : goal.returns
returns g c =
    let there = is_there c.args.self.now c.args.txn _ _ c.self.inside.active.items c.self.view_is
    c.deref.result.now c.deref.ensures.value c.in-Some.i c.in-Some.ensures.found in
    record {
      foreign = λ none. absurd (true≢false (sym there ∙ none));
      served = λ mine. c.in_ok-next_step.ensures;
      ok = one_shown c.args.self.now c.args.txn _ _ c.self.inside.active.items c.self.view_is
          c.deref.result.now c.deref.ensures.value c.in-Some.i c.in-Some.ensures.found
          (step_seen (value_of c.next_step.new.self)) c.self.inside.active.items c.note_step.new.active.items c.note_step.ensures refl;
      unchanged = tt;
    }
