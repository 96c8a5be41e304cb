use Rattle.std.proofs.Common.{◌∙◌}
use Rattle.threads_lifetime.proofs.Gathering.{heads_last, heads_none}
use Rattle.threads_lifetime.proofs.gather.heads.Goals as goal

pub returns-in-Some : goal.returns-in-Some
returns-in-Some g c = c.is_numbered.ensures ∙ heads_last c.args.number c.args.list.now _ _ c.in-Some.ensures.cases.0

pub returns-in-None : goal.returns-in-None
returns-in-None g c = heads_none c.args.number c.args.list.now c.in-None.ensures.cases
