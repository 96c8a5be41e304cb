use Rattle.std.proofs.Common.{refl, sym, true≢false, ◌∙◌, arith}
use Rattle.std.proofs.lemmas.Result.{err_from_is_err_and}
use Rattle.threads_sessions.proofs.Shown.{at_place, ended_shown, is_there, not_there}
use Rattle.threads_sessions.proofs.session.Session.end.Goals as goal

pub returns-in_default : goal.returns-in_default
returns-in_default g c =
    let away = not_there c.args.self.now c.args.txn _ _ c.self.inside.active.items c.self.view_is
    c.deref.result.now c.deref.ensures.value c.in_default.ensures.found in
    record { foreign = λ none. (refl, refl); served = λ mine. absurd (true≢false (sym mine ∙ away)); ok = tt; unchanged = refl }

pub end-requires : goal.end-requires
end-requires g c =
    c.requires (is_there c.args.self.now c.args.txn _ _ c.self.inside.active.items c.self.view_is
    c.deref.result.now c.deref.ensures.value c.in-Some.i c.in-Some.ensures.found)

pub returns-in_err-end : goal.returns-in_err-end
returns-in_err-end g c =
    let p = err_from_is_err_and c.from_residual.result c.from_residual.ensures.1 in
    let there = is_there c.args.self.now c.args.txn _ _ c.self.inside.active.items c.self.view_is
    c.deref.result.now c.deref.ensures.value c.in-Some.i c.in-Some.ensures.found in
    rw (p.1, p.2) (record {
      foreign = λ none. absurd (true≢false (sym there ∙ none));
      served = λ mine. c.in_err-end.ensures;
      ok = tt;
      unchanged = refl;
    })

pub take_out-requires : goal.take_out-requires
take_out-requires g c = record {
  within = omega (arith, c.in-Some.ensures.within, c.deref.ensures.len);
  place = at_place c.args.self.now c.args.txn _ _ c.self.inside.active.items c.self.view_is
      c.deref.result.now c.deref.ensures.value c.in-Some.i c.in-Some.ensures.found;
}

pub returns : goal.returns
returns g c =
    let there = is_there c.args.self.now c.args.txn _ _ c.self.inside.active.items c.self.view_is
    c.deref.result.now c.deref.ensures.value c.in-Some.i c.in-Some.ensures.found in
    record {
      foreign = λ none. absurd (true≢false (sym there ∙ none));
      served = λ mine. c.in_ok-end.ensures;
      ok = ended_shown c.args.self.now c.args.txn _ _ c.self.inside.active.items c.self.view_is c.take_out.new.active.items c.take_out.ensures.left;
      unchanged = tt;
    }
