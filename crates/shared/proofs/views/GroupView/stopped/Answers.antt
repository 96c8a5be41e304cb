use Rattle.std.proofs.Common.{rules}
use Rattle.shared.proofs.views.GroupView.stopped.Goals as goal

pub returns-clause-seen : goal.returns-clause-seen
returns-clause-seen g c = search rules
