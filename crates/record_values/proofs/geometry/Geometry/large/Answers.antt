use Rattle.std.proofs.Common.{rules}
use Rattle.record_values.proofs.geometry.Geometry.large.Goals as goal

pub invariant_of-result : goal.invariant_of-result
invariant_of-result c = search rules

pub returns-clause-within : goal.returns-clause-within
returns-clause-within c = search rules
