use Rattle.std.proofs.Common.{◌≡◌, ◌∙◌, ℕ, arith, refl, subst, sym}
use Rattle.headline.specs.declared.shared_day.End.TheVariants.{Behind, Closing, Opening, Since}
use Rattle.headline.specs.Stops.{IsFoundAs}
use Rattle.headline.proofs.beside.stop_device.Goals as goal

opening_or_closing : Opening ≡ Closing → ⊥
opening_or_closing e = cc

opening_or_since : (k : ℕ) → Opening ≡ Since k → ⊥
opening_or_since k e = cc

opening_or_behind : Opening ≡ Behind → ⊥
opening_or_behind e = cc

closing_or_since : (k : ℕ) → Closing ≡ Since k → ⊥
closing_or_since k e = cc

closing_or_behind : Closing ≡ Behind → ⊥
closing_or_behind e = cc

behind_or_since : (k : ℕ) → Behind ≡ Since k → ⊥
behind_or_since k e = cc

pub returns-in-Behind-clause-stopped : goal.returns-in-Behind-clause-stopped
returns-in-Behind-clause-stopped g c = λ first mid read marked-first marked-mid marked-read low high from until.
    let old = g.D.Device.past_of c.args.device.now in
    record {
      stop = record {
        moment = old.moment;
        from = omega (arith, low, high);
        until = omega arith;
        found-as = subst (λ disk. IsFoundAs disk (g.D.Device.past_of c.stop_now.new.self)) (sym old.now) c.stop_now.ensures.found;
      };
      closing = λ closing. high;
      since = λ k since. until;
      at-end = λ behind. refl;
    }

pub returns-in-Closing-clause-stopped : goal.returns-in-Closing-clause-stopped
returns-in-Closing-clause-stopped g c = λ first mid read marked-first marked-mid marked-read low high from until.
    let stop = c.stop.ensures.stopped mid marked-mid high in
    record {
      stop = record { moment = stop.moment; from = omega (arith, low, stop.from); until = stop.until; found-as = stop.found-as };
      closing = λ closing. stop.from;
      since = λ k since. absurd (closing_or_since k (sym c.in-Closing.is ∙ since));
      at-end = λ behind. absurd (closing_or_behind (sym c.in-Closing.is ∙ behind));
    }

pub returns-in-Opening-clause-stopped : goal.returns-in-Opening-clause-stopped
returns-in-Opening-clause-stopped g c = λ first mid read marked-first marked-mid marked-read low high from until. record {
  stop = c.stop-in-Opening.ensures.stopped first marked-first (omega (arith, low, high));
  closing = λ closing. absurd (opening_or_closing (sym c.in-Opening.is ∙ closing));
  since = λ k since. absurd (opening_or_since k (sym c.in-Opening.is ∙ since));
  at-end = λ behind. absurd (opening_or_behind (sym c.in-Opening.is ∙ behind));
}

pub returns-in-Since-clause-stopped : goal.returns-in-Since-clause-stopped
returns-in-Since-clause-stopped g c = λ first mid read marked-first marked-mid marked-read low high from until.
    let stop = c.stop-in-Since.ensures.stopped read marked-read until in
    record {
      stop = record { moment = stop.moment; from = omega (arith, from, stop.from); until = stop.until; found-as = stop.found-as };
      closing = λ closing. absurd (closing_or_since _ (sym closing ∙ c.in-Since.is));
      since = λ k since. stop.from;
      at-end = λ behind. absurd (behind_or_since _ (sym behind ∙ c.in-Since.is));
    }
