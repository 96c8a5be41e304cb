use Rattle.std.proofs.Common.{ap}
use Rattle.threads_queue.specs.declared.knowledge.Knowledge.{Knowledge}
use Rattle.threads_queue.proofs.Keeps.{begins, forks}
use Rattle.threads_queue.proofs.queue.RecordQueue.new.Goals as goal

pub with_rule-requires : goal.with_rule-requires
with_rule-requires g c = begins

pub another-other-requires-clause-rule : goal.another-other-requires-clause-rule
another-other-requires-clause-rule g c = let is = c.in_ok-queue.ensures.2 in forks _ _ (ap (λ (v : Knowledge). v.pushes) is) (ap (λ (v : Knowledge). v.pops) is)
