use Rattle.std.proofs.Common.{IfErr, IfOk, OnOk, inl, subst, sym, ℕ, ◌≡◌, ◌<◌, ◌≤◌}
use Rattle.std.proofs.lemmas.Result.{IfOk-weaker}
use Rattle.threads_lifetime.specs.Openings.{IsNotShared}
use Rattle.nsf.specs.Serving.{IsNotServed, WhyUnwritten}
use Rattle.nsf.proofs.Refusals.{both, never_both, none_began, same_refusal}
use Rattle.nsf.proofs.led.serve_led.Goals as goal

pub returns-in-Ok-clause-leaves : goal.returns-in-Ok-clause-leaves
returns-in-Ok-clause-leaves g c = IfOk-weaker c.begin.result _ _ (λ served is.
    (c.in-Ok.store.site.opened, c.in-Ok.ensures.opened.opened, c.in-Ok.store.device, c.in-Ok.ensures.opened.device, is.0.0, is.0.1, is.1))
    (both _ _ c.begin.result c.begin.ensures.leaves c.begin.ensures.told)

pub returns-in-Ok-clause-why : goal.returns-in-Ok-clause-why
returns-in-Ok-clause-why g c =
    let failures = g.D.Device.failures in
    subst (λ (n : ℕ). IfOk c.begin.result (λ s. IfErr s.written (WhyUnwritten n (failures s.device)))) c.in-Ok.ensures.opened.quiet c.begin.ensures.why

pub returns-in-Ok-clause-quiet : goal.returns-in-Ok-clause-quiet
returns-in-Ok-clause-quiet g c =
    let failures = g.D.Device.failures in
    subst (λ (n : ℕ). IfOk c.begin.result (λ s. OnOk s.written (failures s.device ≡ n))) c.in-Ok.ensures.opened.quiet c.begin.ensures.quiet

pub returns-in-Ok-clause-refused : goal.returns-in-Ok-clause-refused
returns-in-Ok-clause-refused g c =
    let past_of = g.D.Device.past_of in
    let failures = g.D.Device.failures in
    subst (λ (n : ℕ). IfErr c.begin.result (λ r. IsNotServed past_of failures c.args.device n r.1 r.0)) c.len.ensures
    (none_began past_of failures c.args.device c.len.result c.in-Ok.store c.in-Ok.ensures.opened c.begin.result c.begin.ensures.refused)

pub returns-in-Ok-clause-later : goal.returns-in-Ok-clause-later
returns-in-Ok-clause-later g c =
    let failures = g.D.Device.failures in
    subst (λ (n : ℕ). IfOk c.begin.result (λ s. n ≤ failures s.device)) c.in-Ok.ensures.opened.quiet c.begin.ensures.later

pub returns-in-Ok-clause-clients : goal.returns-in-Ok-clause-clients
returns-in-Ok-clause-clients g c = c.begin.ensures.clients

pub returns-in-Ok-clause-many : goal.returns-in-Ok-clause-many
returns-in-Ok-clause-many g c more =
    absurd (never_both c.open_store.result _ _ c.in-Ok.is (c.open_store.ensures.many (subst (λ (n : ℕ). 16 < n) (sym c.len.ensures) more)))

pub returns-in-Err : goal.returns-in-Err
returns-in-Err g c =
    let refused = c.in-Err.refused in
    record {
      leaves = tt;
      why = tt;
      quiet = tt;
      later = tt;
      clients = tt;
      refused =
          inl (subst (λ (n : ℕ). IsNotShared g.D.Device.past_of g.D.Device.failures c.args.device n refused.1 refused.0) c.len.ensures
          c.in-Err.ensures.refused);
      many = λ more. same_refusal c.open_store.result _ _ c.in-Err.is (c.open_store.ensures.many (subst (λ (n : ℕ). 16 < n) (sym c.len.ensures) more));
    }
