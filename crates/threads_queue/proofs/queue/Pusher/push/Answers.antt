use Rattle.std.proofs.Common.{ap, rules}
use Rattle.threads_queue.specs.declared.knowledge.Knowledge.{Knowledge}
use Rattle.threads_queue.proofs.Keeps.{pushes}
use Rattle.threads_queue.proofs.queue.Pusher.push.Goals as goal

pub push_as-requires-clause-rule : goal.push_as-requires-clause-rule
push_as-requires-clause-rule g c n = pushes n _ _ _ (ap (λ (v : Knowledge). v.pushes) c.self.invariant.1)

pub returns-clause-ok : goal.returns-clause-ok
returns-clause-ok g c = search rules

pub returns-clause-back : goal.returns-clause-back
returns-clause-back g c = search rules

pub returns-clause-unchanged : goal.returns-clause-unchanged
returns-clause-unchanged g c = search rules
