use Rattle.locked_core.proofs.Popped.{popped_fit, popped_follow}
use Rattle.locked_core.proofs.locked.Locked.compare.Goals as goal

pub returns-clause-following : goal.returns-clause-following
returns-clause-following g c = popped_follow _ _ _ _ _ c.compare.ensures.beginning c.args.self.now.shared

pub returns-clause-fits : goal.returns-clause-fits
returns-clause-fits g c = popped_fit _ _ _ _ _ c.compare.ensures.beginning c.args.self.now.shared
