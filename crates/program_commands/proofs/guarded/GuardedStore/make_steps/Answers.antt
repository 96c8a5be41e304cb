use Rattle.std.proofs.Common.{◌≡◌, ◌-◌, ◌+◌, ◌<◌, ◌∷◌, [], ℕ, true, false, refl, sym, subst, ◌∙◌, arith}
use Rattle.std.proofs.lemmas.Result.{err_from_is_err_and}
use Rattle.program_values.specs.Steps.{is_last_step}
use Rattle.program_commands.specs.Requested.{MakesSteps, Tells}
use Rattle.program_commands.specs.declared.outcome.Outcome.TheVariants.{Other}
use Rattle.program_commands.proofs.Made.{no_step, one_step, last_step}
use Rattle.program_commands.proofs.guarded.GuardedStore.make_steps.Goals as goal

pub loop-init : goal.loop-init
loop-init g c =
    let all : c.args.count - 0 ≡ c.args.count = omega arith in
    record {
      runs = λ outcome new after steps. subst (λ (n : ℕ).
          MakesSteps g.D.Device.past_of g.D.Device.failures g.W.Write.contents c.args.event.now n outcome c.args.self.now new c.args.output.now after) all
          steps;
      made = λ replies new few are. (replies, omega (arith, few), are);
    }

pub returns-then-is_last_step-clause-ok : goal.returns-then-is_last_step-clause-ok
returns-then-is_last_step-clause-ok g c =
    let h = g.D.Device.past_of in
    let f = g.D.Device.failures in
    let w = g.W.Write.contents in
    let tells : Tells h f w c.args.event.now c.answer_of-answer.result c.loop.self c.serve-reply.new.self c.loop.output c.print.new.output = record {
      reply = c.serve-reply.result;
      serves = c.serve-reply.ensures;
      told_is = cc;
      prints = c.in_ok-outcome.ensures.0;
    } in
    let last : is_last_step c.answer_of-answer.result ≡ true = sym c.is_last_step.ensures ∙ c.if-is_last_step.true in
    let some : 0 < c.args.count - c.loop.counter = omega (arith, c.loop-test.true) in
    c.loop.invariant.runs c.in_ok-outcome.outcome c.serve-reply.new.self c.print.new.output
    (last_step h f w c.args.event.now (c.args.count - c.loop.counter) c.in_ok-outcome.outcome c.loop.self c.serve-reply.new.self c.loop.output
    c.print.new.output c.answer_of-answer.result some tells last c.in_ok-outcome.ensures.1)

pub loop-preserved : goal.loop-preserved
loop-preserved g c =
    let h = g.D.Device.past_of in
    let f = g.D.Device.failures in
    let w = g.W.Write.contents in
    let tells : Tells h f w c.args.event.now c.answer_of-answer.result c.loop.self c.serve-reply.new.self c.loop.output c.print.new.output = record {
      reply = c.serve-reply.result;
      serves = c.serve-reply.ensures;
      told_is = cc;
      prints = c.in_ok-outcome.ensures.0;
    } in
    let goes_on : is_last_step c.answer_of-answer.result ≡ false = sym c.is_last_step.ensures ∙ c.if-is_last_step.false in
    let left : c.args.count - (c.loop.counter + 1) + 1 ≡ c.args.count - c.loop.counter = omega (arith, c.loop-test.true) in
    record {
      runs = λ outcome new after steps.
          c.loop.invariant.runs outcome new after
          (subst (λ (n : ℕ). MakesSteps h f w c.args.event.now n outcome c.loop.self new c.loop.output after) left
          (one_step h f w c.args.event.now (c.args.count - (c.loop.counter + 1)) outcome c.loop.self c.serve-reply.new.self new c.loop.output c.print.new.output
          after c.answer_of-answer.result tells goes_on steps));
      made = λ replies new few are.
          c.loop.invariant.made (c.serve-reply.result ∷ replies) new (omega (arith, few, left)) (c.serve-reply.new.self, c.serve-reply.ensures, are);
    }

pub returns-clause-ok : goal.returns-clause-ok
returns-clause-ok g c =
    let h = g.D.Device.past_of in
    let f = g.D.Device.failures in
    let w = g.W.Write.contents in
    let none : 0 ≡ c.args.count - c.loop.counter = omega (arith, c.loop-test.false) in
    c.loop.invariant.runs Other c.loop.self c.loop.output
    (subst (λ (n : ℕ). MakesSteps h f w c.args.event.now n Other c.loop.self c.loop.self c.loop.output c.loop.output) none
    (no_step h f w c.args.event.now c.loop.self c.loop.output))

pub returns-in_err-outcome-clause-err : goal.returns-in_err-outcome-clause-err
returns-in_err-outcome-clause-err g c =
    let p = err_from_is_err_and c.from_residual.result c.from_residual.ensures.1 in
    rw p.1 (c.loop.invariant.made (c.serve-reply.result ∷ []) c.serve-reply.new.self (omega (arith, c.loop-test.true))
    (c.serve-reply.new.self, c.serve-reply.ensures, refl))
