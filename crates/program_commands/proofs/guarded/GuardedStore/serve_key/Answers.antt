use Rattle.std.proofs.Common.{◌≡◌, ℕ, Result, Ok, Err, refl, sym, ap, subst, ◌∙◌}
use Rattle.record_values.specs.Values.{Place}
use Rattle.restart.specs.declared.event.Event.{Event}
use Rattle.program_values.specs.declared.answer.Answer.{Answer}
use Rattle.program_commands.specs.Answers.{answer_of}
use Rattle.program_commands.specs.Keyed.{Changes, ChangesFound, place_found}
use Rattle.program_commands.proofs.guarded.GuardedStore.serve_key.Goals as goal

pub returns-in-Ok : goal.returns-in-Ok
returns-in-Ok g c =
    let h = g.D.Device.past_of in
    let f = g.D.Device.failures in
    let asked = c.args.asked.now in
    let is = sym c.in-Ok.is ∙ c.place_found.ensures ∙ ap (λ (n : ℕ). place_found n c.serve-found.result) c.horizon.ensures in
    record {
      found = c.serve-found.result;
      mid = c.serve-found.new.self;
      searches = c.serve-found.ensures;
      changes = subst (λ (r : Result Place Answer). ChangesFound h f asked r c.answer_of.result c.serve-found.new.self c.change-reply.new.self) is (
        c.change-reply.result,
        subst (λ (e : Event). Changes h f asked.txn e c.change-reply.result c.serve-found.new.self c.change-reply.new.self) c.event_at.ensures
            c.change-reply.ensures,
        c.answer_of.ensures ∙ ap (λ (n : ℕ). answer_of n c.change-reply.result) c.horizon-in-Ok.ensures,
      );
    }

pub returns-in-Err : goal.returns-in-Err
returns-in-Err g c =
    let h = g.D.Device.past_of in
    let f = g.D.Device.failures in
    let is = sym c.in-Err.is ∙ c.place_found.ensures ∙ ap (λ (n : ℕ). place_found n c.serve-found.result) c.horizon.ensures in
    record {
      found = c.serve-found.result;
      mid = c.serve-found.new.self;
      searches = c.serve-found.ensures;
      changes = subst (λ (r : Result Place Answer). ChangesFound h f c.args.asked.now r c.in-Err.answer c.serve-found.new.self c.serve-found.new.self) is
          (refl, refl);
    }
