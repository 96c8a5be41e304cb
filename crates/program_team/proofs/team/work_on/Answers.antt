use Rattle.std.proofs.Common.{◌+◌, inl, inr, refl, subst, ℕ}
use Rattle.std.proofs.lemmas.Result.{IfErr-weaker, IfOk-weaker}
use Rattle.record_values.specs.declared.error.Error.TheVariants.{NoMemory}
use Rattle.threads_lifetime.specs.Openings.{IsNotShared}
use Rattle.threads_lifetime.specs.declared.refusal.OpenError.TheVariants.{Refused}
use Rattle.program_team.proofs.Leaving.{given_back}
use Rattle.program_team.proofs.team.work_on.Goals as goal

pub returns-in-Ok : goal.returns-in-Ok
returns-in-Ok g c = record {
  kept = IfOk-weaker c.begin.result _ _ (λ worked kept.
      (c.in-Ok.store.site.opened, c.in-Ok.ensures.opened.opened, kept)) c.begin.ensures.kept;
  refused = IfErr-weaker c.begin.result _ _ (λ r is. (
    Refused NoMemory,
    is.0,
    inr (inl (refl, given_back g.D.Device.past_of g.D.Device.failures c.args.device _ c.in-Ok.store r.1 c.in-Ok.ensures.opened is.1)),
  )) c.begin.ensures.refused;
}

pub returns-in-Err : goal.returns-in-Err
returns-in-Err g c = record {
  kept = tt;
  refused = (
    c.in-Err.error,
    c.not_opened.ensures,
    subst (λ (n : ℕ). IsNotShared g.D.Device.past_of g.D.Device.failures c.args.device (n + 1) c.in-Err.device c.in-Err.error) c.from-seats.ensures
        c.in-Err.ensures.refused,
  );
}
