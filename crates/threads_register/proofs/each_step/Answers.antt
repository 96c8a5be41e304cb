use Rattle.std.proofs.Common.{[], ◌++◌, ◌∷◌, subst, sym}
use Rattle.core_laws.specs.Calls.{HasReplied}
use Rattle.threads_register.proofs.each_step.Goals as goal

pub returns-clause-begins : goal.returns-clause-begins
returns-clause-begins c = λ o core b. record { calls = []; replied = c.each_call.ensures.begins o core b }

pub returns-clause-served : goal.returns-clause-served
returns-clause-served c = λ o can pushed core kept e reply new serves.
    record { calls = kept.calls ++ (e, reply) ∷ []; replied = c.each_call.ensures.replies o can kept.calls pushed core kept.replied e reply new serves }

pub returns-clause-pushed : goal.returns-clause-pushed
returns-clause-pushed c = λ o pushed core kept new after on.
    record {
      calls = kept.calls;
      replied = subst (λ rs. HasReplied o kept.calls rs new) (sym on.taken)
          (c.each_call.ensures.hands_on o kept.calls pushed core kept.replied new pushed after on);
    }
