use Rattle.std.proofs.Common.{rules}
use Rattle.marked_index.proofs.index.MarkedIndex.pledge.Goals as goal

pub returns-then-taken-places-clause-full : goal.returns-then-taken-places-clause-full
returns-then-taken-places-clause-full g c = search rules

pub returns-then-taken-places-clause-unchanged : goal.returns-then-taken-places-clause-unchanged
returns-then-taken-places-clause-unchanged g c = search rules
