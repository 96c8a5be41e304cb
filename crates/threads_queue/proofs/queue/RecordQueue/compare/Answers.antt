use Rattle.std.proofs.Common.{ap, ◌∙◌}
use Rattle.threads_queue.specs.declared.knowledge.Knowledge.{Knowledge}
use Rattle.threads_queue.proofs.Keeps.{comes_back, forks, learns, lends, merges}
use Rattle.threads_queue.proofs.queue.RecordQueue.compare.Goals as goal

pub another-lent-requires-clause-rule : goal.another-lent-requires-clause-rule
another-lent-requires-clause-rule g c = lends _ _ (ap (λ (v : Knowledge). v.pops) c.popper.invariant.1)

pub absorb-requires-clause-rule : goal.absorb-requires-clause-rule
absorb-requires-clause-rule g c = merges _ _ _ _ (ap (λ (v : Knowledge). v.pushes) c.pusher.invariant.1)
    (ap (λ (v : Knowledge). v.pops) c.another-lent.ensures.rule.1)

pub len_as-requires-clause-rule : goal.len_as-requires-clause-rule
len_as-requires-clause-rule g c = learns _ _

pub another-back-requires-clause-rule : goal.another-back-requires-clause-rule
another-back-requires-clause-rule g c =
    let is = c.len_as.ensures.queue.2 ∙ c.absorb.ensures.rule in
    forks _ _ (ap (λ (v : Knowledge). v.pushes) is) (ap (λ (v : Knowledge). v.pops) is)

pub absorb-requires-2-clause-rule : goal.absorb-requires-2-clause-rule
absorb-requires-2-clause-rule g c = comes_back _ _ _ _ (ap (λ (v : Knowledge). v.pops) c.another-back.ensures.rule.1)
