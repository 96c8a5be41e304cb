use Rattle.std.proofs.Common.{ap, rules}
use Rattle.threads_queue.specs.declared.knowledge.Knowledge.{Knowledge}
use Rattle.threads_queue.proofs.Keeps.{learns, pops}
use Rattle.threads_queue.proofs.queue.Popper.pop.Goals as goal

pub pop_as-requires-clause-rule : goal.pop_as-requires-clause-rule
pop_as-requires-clause-rule g c = (pops _ _ (ap (λ (v : Knowledge). v.pops) c.self.invariant.1), learns _ _)

pub returns : goal.returns
returns g c = search rules
